use Rattle.std.proofs.Common.{◌≡◌, ℕ, ◌+◌, ◌*◌, drop}
use Rattle.fault.specs.declared.faults.Fault.{Fault}
use Rattle.sheet.specs.Lines.{line}
use Rattle.sheet.specs.Contents.{Test, first_line}
use Rattle.sheet.specs.Readers.{rest_of}
use Rattle.sheet.proofs.contents.Lines.first_failing.Given as goal

abbrev pub invariant-loop-place : goal.invariant-loop-place
invariant-loop-place g l =
    let test : Test = λ i x. g.passes x (line l.self.sheet.now i) in
    (rest_of l.reader ≡ drop (5 * l.place + 1) l.self.sheet.now)
    × ((fault : ℕ → Fault) → first_line test fault 0 l.self.due.now ≡ first_line test fault l.place (drop l.place l.self.due.now))
