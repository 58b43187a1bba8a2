use Rattle.std.proofs.Common.{ℕ, ◌+◌, eqb, sym, ap, ◌∙◌, ap₂, add-one, arith}
use Rattle.std.proofs.lemmas.Bool.{eq-eqb, ne_eqb}
use Rattle.fault.specs.Faults.{judged}
use Rattle.fault.specs.declared.faults.Fault.TheVariants.{BodyPlace}
use Rattle.sheet.specs.declared.reading.Line.{Line}
use Rattle.sheet.specs.Contents.{in_place, due_at, first_body}
use Rattle.sheet.proofs.LineLaws.{line_after, line_is, line_passes, line_stops, not_placed}
use Rattle.sheet.proofs.contents.Lines.check_places.Goals as goal

pub returns-then-line-place : goal.returns-then-line-place
returns-then-line-place c =
    let v = c.args.self.now in
    let s = v.sheet.now in
    let i = c.loop-i.i in
    let first = first_body v.due.now in
    let is = line_is s v.due.now i c.loop-i.invariant.0 v.room c.loop-i-test.true c.unwrap-line.result (sym c.unwrap-line.ensures ∙ c.step.ensures.answer) in
    ap judged (sym (not_placed v.due.now s (BodyPlace i) (c.loop-i.invariant.1 ∙ line_stops (in_place first s) BodyPlace v.due.now i c.loop-i-test.true (ap (λ (l : Line). eqb l.start (due_at first s i)) (sym is) ∙ ne_eqb _ _ (λ e. omega arith)))))

pub loop-i-preserved : goal.loop-i-preserved
loop-i-preserved c =
    let v = c.args.self.now in
    let s = v.sheet.now in
    let i = c.loop-i.i in
    let first = first_body v.due.now in
    let is = line_is s v.due.now i c.loop-i.invariant.0 v.room c.loop-i-test.true c.unwrap-line.result (sym c.unwrap-line.ensures ∙ c.step.ensures.answer) in (
      c.step.ensures.rest ∙ line_after s v.due.now i c.loop-i.invariant.0 v.room c.loop-i-test.true,
      c.loop-i.invariant.1 ∙ line_passes (in_place first s) BodyPlace v.due.now i c.loop-i-test.true (ap (λ (l : Line). eqb l.start (due_at first s i)) (sym is) ∙ eq-eqb _ _ (omega arith)),
      ap₂ (λ (p : ℕ) (l : Line). p + l.size) c.loop-i.invariant.2 is ∙ ap (due_at first s) (sym (add-one i)),
      omega arith,
    )
