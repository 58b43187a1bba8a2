use Rattle.std.proofs.Common.{◌∙◌}
use Rattle.plan_check.proofs.VerdictLaws.{sheets_judged}
use Rattle.plan_check.proofs.sheets.check.Goals as goal

pub returns : goal.returns
returns c = c.check_cells.ensures.answer ∙ sheets_judged c.args.wiring_sheet.now c.args.plan_sheet.now _ _ c.in_ok-wiring.ensures.answer c.in_ok-plan.ensures.answer (c.if-plan-nodes.false ∙ c.nodes.ensures)
