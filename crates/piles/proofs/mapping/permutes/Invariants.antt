use Rattle.std.proofs.Common.{◌≡◌, length}
use Rattle.piles.proofs.SlotLaws.{Marked}
use Rattle.piles.proofs.mapping.permutes.Given as goal

abbrev pub invariant-loop-slot : goal.invariant-loop-slot
invariant-loop-slot l = (length l.seen ≡ 64) × Marked l.map l.slot-index l.seen
