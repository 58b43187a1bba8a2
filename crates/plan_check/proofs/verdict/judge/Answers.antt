use Rattle.std.proofs.Common.{ap, ◌∙◌, ap₂}
use Rattle.std.proofs.lemmas.Result.{err_from_is_err_and}
use Rattle.fault.specs.Faults.{judged}
use Rattle.wiring.specs.Lists.{range, first_some}
use Rattle.wiring.specs.Tables.{Table}
use Rattle.wiring.specs.Topologies.{Topology}
use Rattle.plan_check.specs.Rules.{layer_fault}
use Rattle.wiring.specs.Wirings.{topology}
use Rattle.plan_check.proofs.VerdictLaws.{cell_decides, layers_decide}
use Rattle.plan_check.proofs.verdict.judge.Goals as goal

pub returns-in_err-new : goal.returns-in_err-new
returns-in_err-new g c =
    let p = err_from_is_err_and c.from_residual.result c.from_residual.ensures.1 in
    rw (p.1, p.2) (cell_decides (topology c.args.candidate.now.wiring.now) (g.T.Cells.meant c.args.candidate.now.cells.now) _ c.in_err-new.ensures)

pub returns : goal.returns
returns g c =
    let e = c.in_ok-new.ensures in
    c.check_layers.ensures
    ∙ ap₂ (λ (v : Topology) (u : Table). judged (first_some (layer_fault v u) (range 0 v.layers))) e.0 (ap g.T.Cells.meant e.1)
    ∙ layers_decide (topology c.args.candidate.now.wiring.now) (g.T.Cells.meant c.args.candidate.now.cells.now) e.2
