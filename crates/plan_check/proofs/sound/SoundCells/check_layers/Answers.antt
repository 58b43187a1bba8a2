use Rattle.std.proofs.Common.{sym, ap, arith, below_more}
use Rattle.wiring.specs.Networks.{net}
use Rattle.wiring.specs.Topologies.{Topology}
use Rattle.fault.specs.Faults.{judged}
use Rattle.plan_check.specs.Rules.{layer_fault}
use Rattle.plan_check.proofs.FirstLaws.{stopped, passed, layer_faulty, layer_fine}
use Rattle.plan_check.proofs.sound.SoundCells.check_layers.Goals as goal

pub returns-then-has_cycle : goal.returns-then-has_cycle
returns-then-has_cycle g c =
    let s = c.args.self.now in
    let w = net s.network in
    let t = g.T.Cells.meant s.cells.now in
    stopped (layer_fault w t) w.layers c.loop-layer.layer _ (let q = ap (λ (v : Topology). v.layers) c.wiring.ensures in omega arith) c.loop-layer.invariant (ap judged (sym (layer_faulty w t c.loop-layer.layer c.if-has_cycle.ensures)))

pub loop-layer-preserved : goal.loop-layer-preserved
loop-layer-preserved g c =
    let s = c.args.self.now in
    below_more _ _ c.loop-layer.invariant (layer_fine (net s.network) (g.T.Cells.meant s.cells.now) c.loop-layer.layer c.if-has_cycle.ensures)

pub returns : goal.returns
returns g c =
    let s = c.args.self.now in
    passed (layer_fault (net s.network) (g.T.Cells.meant s.cells.now)) (net s.network).layers (λ k h. c.loop-layer.invariant k (let q = ap (λ (v : Topology). v.layers) c.wiring.ensures in omega arith))
