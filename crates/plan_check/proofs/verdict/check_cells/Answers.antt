use Rattle.std.proofs.Common.{rules}
use Rattle.wiring.specs.Wirings.{topology}
use Rattle.wiring.proofs.HeldLaws.{valid}
use Rattle.plan_check.proofs.VerdictLaws.{judged_exact, judged_arrives, judged_moves}
use Rattle.plan_check.proofs.verdict.check_cells.Goals as goal

-- That the answer is the verdict is found each time, whatever the body answers: no name of a call stands here.
pub returns-clause-exact : goal.returns-clause-exact
returns-clause-exact g c = judged_exact (topology c.args.wiring.now) (g.T.Cells.meant c.args.cells.now) (valid c.args.wiring.now) _ (search rules)

pub returns-clause-arrives : goal.returns-clause-arrives
returns-clause-arrives g c = judged_arrives (topology c.args.wiring.now) (g.T.Cells.meant c.args.cells.now) (valid c.args.wiring.now) _ (search rules)

pub returns-clause-moves : goal.returns-clause-moves
returns-clause-moves g c = judged_moves (topology c.args.wiring.now) (g.T.Cells.meant c.args.cells.now) (valid c.args.wiring.now) _ (search rules)
