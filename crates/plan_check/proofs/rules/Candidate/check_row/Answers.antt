use Rattle.std.proofs.Common.{arith, below_more}
use Rattle.std.proofs.lemmas.Result.{err_from_is_err_and}
use Rattle.wiring.specs.Wirings.{topology}
use Rattle.plan_check.specs.Rules.{cell_fault}
use Rattle.plan_check.proofs.FirstLaws.{stopped, passed, let_pass}
use Rattle.plan_check.proofs.rules.Candidate.check_row.Goals as goal

pub returns-in_err-check_cell : goal.returns-in_err-check_cell
returns-in_err-check_cell g c = let p = err_from_is_err_and c.from_residual.result c.from_residual.ensures.1 in rw (p.1, p.2) (stopped (cell_fault (topology c.args.self.now.wiring.now) (g.T.Cells.meant c.args.self.now.cells.now) c.args.destination) _ c.loop-node.node _ (omega arith) c.loop-node.invariant c.in_err-check_cell.ensures)

pub loop-node-preserved : goal.loop-node-preserved
loop-node-preserved g c = below_more _ _ c.loop-node.invariant (let_pass _ c.in_ok-check_cell.ensures)

pub returns : goal.returns
returns g c = passed (cell_fault (topology c.args.self.now.wiring.now) (g.T.Cells.meant c.args.self.now.cells.now) c.args.destination) _ (λ k h. c.loop-node.invariant k (omega arith))
