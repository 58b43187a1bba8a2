use Rattle.std.proofs.Common.{◌≡◌, ◌+◌, ◌*◌, ◌≤◌, drop}
use Rattle.fault.specs.declared.faults.Fault.TheVariants.{BodyPlace}
use Rattle.sheet.specs.Contents.{in_place, due_at, first_body, first_line}
use Rattle.sheet.specs.Readers.{rest_of}
use Rattle.sheet.proofs.contents.Lines.check_places.Given as goal

abbrev pub invariant-loop-i : goal.invariant-loop-i
invariant-loop-i l =
    let due = l.self.due.now in
    let s = l.self.sheet.now in
    (rest_of l.reader ≡ drop (5 * l.i + 1) s)
    × (first_line (in_place (first_body due) s) BodyPlace 0 due ≡ first_line (in_place (first_body due) s) BodyPlace l.i (drop l.i due))
    × (l.place ≡ due_at (first_body due) s l.i)
    × (l.place ≤ 131070)
