use Rattle.std.proofs.Common.{arith, below_more}
use Rattle.std.proofs.lemmas.Result.{err_from_is_err_and}
use Rattle.wiring.specs.Lists.{first_some}
use Rattle.wiring.specs.Topologies.{all_nodes}
use Rattle.wiring.specs.Wirings.{topology}
use Rattle.plan_check.specs.Rules.{cell_fault}
use Rattle.plan_check.proofs.FirstLaws.{stopped, passed, let_pass}
use Rattle.plan_check.proofs.rules.Candidate.check_rules.Goals as goal

pub returns-in_err-check_row : goal.returns-in_err-check_row
returns-in_err-check_row g c =
    let w = topology c.args.self.now.wiring.now in
    let p = err_from_is_err_and c.from_residual.result c.from_residual.ensures.1 in
    rw (p.1, p.2) (stopped (λ d. first_some (cell_fault w (g.T.Cells.meant c.args.self.now.cells.now) d) (all_nodes w)) _ c.loop-destination.destination _ (omega arith) c.loop-destination.invariant c.in_err-check_row.ensures)

pub loop-destination-preserved : goal.loop-destination-preserved
loop-destination-preserved g c = below_more _ _ c.loop-destination.invariant (let_pass _ c.in_ok-check_row.ensures)

pub returns : goal.returns
returns g c =
    let w = topology c.args.self.now.wiring.now in
    passed (λ d. first_some (cell_fault w (g.T.Cells.meant c.args.self.now.cells.now) d) (all_nodes w)) _ (λ k h. c.loop-destination.invariant k (omega arith))
