use Rattle.std.proofs.Common.{sym, ◌∙◌, arith, lit<}
use Rattle.wiring.proofs.MakingLaws.{none_judged}
use Rattle.sheet.specs.Contents.{plan_letters}
use Rattle.sheet.proofs.LineLaws.{line_after}
use Rattle.sheet.proofs.ContentsLaws.{fine, body_there}
use Rattle.sheet.proofs.PlanLaws.{plan_is, one_sheet}
use Rattle.sheet.proofs.plans.read_plan.Goals as goal

pub returns : goal.returns
returns c =
    let s = c.args.bytes.now in
    let none = sym (none_judged _ c.in_ok-check_contents.ensures.answer) in
    let f = fine plan_letters s none in
    let second = c.body.ensures.rest ∙ line_after s plan_letters 0 c.new-reader.ensures.rest f.whole.room (lit< tt) in
    let answer = c.whole_plan.ensures
    ∙ plan_is s _ _ _ none c.byte_at-nodes.ensures
    (c.body.ensures.answer ∙ body_there plan_letters s f 0 (lit< tt) c.new-reader.ensures.sheet c.new-reader.ensures.rest)
    (c.body-cells.ensures.answer ∙ body_there plan_letters s f 1 (lit< tt) (c.body.ensures.sheet ∙ c.new-reader.ensures.sheet) second) in
    record { answer = answer; one_sheet = λ p e. one_sheet s p (λ i. omega (arith, c.type_inv.bytes i)) (sym answer ∙ e) }
