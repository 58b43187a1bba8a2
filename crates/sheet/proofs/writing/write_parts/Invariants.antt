use Rattle.std.proofs.Common.{◌≡◌, ℕ, List, length}
use Rattle.sheet.proofs.WriteLaws.{Begun}
use Rattle.sheet.proofs.writing.write_parts.Given as goal

abbrev pub invariant-loop-i : goal.invariant-loop-i
invariant-loop-i g l = (bytes : ℕ → List ℕ) → ((i : ℕ) (part : _) (r : _) (after : _) → goal.F-post g l.write i part r after → after.now ≡ bytes i) → ((i : ℕ) → length (bytes i) ≡ l.width) → Begun bytes l.width l.count l.i l.memory
