use Rattle.std.proofs.Common.{◌≡◌, get_or, true, false, sym, ap, ◌∙◌, arith}
use Rattle.sheet.specs.declared.letters.Letter.TheVariants.{L}
use Rattle.sheet.specs.declared.reading.Line.{Line}
use Rattle.sheet.specs.Lines.{line}
use Rattle.sheet.specs.Contents.{Test}
use Rattle.sheet.proofs.LineLaws.{line_after, line_is, line_passes, line_stops, line_none}
use Rattle.sheet.proofs.contents.Lines.first_failing.Goals as goal

pub returns-then-not-test : goal.returns-then-not-test
returns-then-not-test g c =
    let v = c.args.self.now in
    let s = v.sheet.now in
    let i = c.loop-place.place in
    let test : Test = λ j x. g.passes x (line s j) in
    let found = c.unwrap-line.result in
    let is = line_is s v.due.now i c.loop-place.invariant.0 v.room c.loop-place-test.true found (sym c.unwrap-line.ensures ∙ c.step.ensures.answer) in
    let told : c.test.result ≡ g.passes (get_or v.due.now i L) found = c.requires.1.1 _ _ _ c.test.ensures in
    let fails : g.passes (get_or v.due.now i L) (line s i) ≡ false = ap (λ (l : Line). g.passes (get_or v.due.now i L) l) (sym is) ∙ sym told ∙ c.if-not-test.true in
    λ fault. sym (c.loop-place.invariant.1 fault ∙ line_stops test fault v.due.now i c.loop-place-test.true fails)

pub loop-place-preserved : goal.loop-place-preserved
loop-place-preserved g c =
    let v = c.args.self.now in
    let s = v.sheet.now in
    let i = c.loop-place.place in
    let test : Test = λ j x. g.passes x (line s j) in
    let found = c.unwrap-line.result in
    let is = line_is s v.due.now i c.loop-place.invariant.0 v.room c.loop-place-test.true found (sym c.unwrap-line.ensures ∙ c.step.ensures.answer) in
    let told : c.test.result ≡ g.passes (get_or v.due.now i L) found = c.requires.1.1 _ _ _ c.test.ensures in
    let passes : g.passes (get_or v.due.now i L) (line s i) ≡ true = ap (λ (l : Line). g.passes (get_or v.due.now i L) l) (sym is) ∙ sym told ∙ c.if-not-test.false in (
      c.step.ensures.rest ∙ line_after s v.due.now i c.loop-place.invariant.0 v.room c.loop-place-test.true,
      λ fault. c.loop-place.invariant.1 fault ∙ line_passes test fault v.due.now i c.loop-place-test.true passes,
    )

pub returns : goal.returns
returns g c =
    let v = c.args.self.now in
    let test : Test = λ j x. g.passes x (line v.sheet.now j) in
    λ fault. sym (c.loop-place.invariant.1 fault ∙ line_none test fault v.due.now c.loop-place.place (omega arith))
