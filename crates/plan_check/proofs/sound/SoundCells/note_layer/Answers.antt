use Rattle.std.proofs.Common.{[], sym, ap, ◌∙◌, arith}
use Rattle.wiring.specs.Lists.{fold}
use Rattle.wiring.specs.Networks.{net}
use Rattle.wiring.specs.Topologies.{Topology, all_nodes}
use Rattle.plan_check.specs.Rules.{dep_at, deps_of}
use Rattle.plan_check.proofs.NotingLaws.{deps_yes, deps_no, upto, noted_idle, noted_step, noted_end}
use Rattle.plan_check.proofs.sound.SoundCells.note_layer.Goals as goal
use Rattle.plan_check.proofs.sound.SoundCells.note_layer.Goals.{then-layer_to-layer, else-layer_to-layer}

pub loop-destination-init : goal.loop-destination-init
loop-destination-init g c = c.requires.none

pub loop-destination-preserved : goal.loop-destination-preserved
loop-destination-preserved g c =
    let s = c.args.self.now in
    let w = net s.network in
    let t = g.T.Cells.meant s.cells.now in
    let f = deps_of w t c.args.layer in
    let l = c.loop-destination in
    let before = upto w f [] l.destination l.destination in
    elim c.if-layer_to-layer.branch [
      | then-layer_to-layer b ↦ rw b.noted-is (noted_step w f [] l.destination b.note_to.new.noted.marks (fold (dep_at w t l.destination) before (all_nodes w)) (deps_yes w t c.args.layer l.destination before (sym c.layer_to.ensures ∙ b.if-layer_to-layer.true)) (b.note_to.ensures before l.invariant))
      | else-layer_to-layer b ↦ rw b.noted-is (noted_idle w f [] l.destination l.noted.marks (deps_no w t c.args.layer l.destination before (λ e. b.if-layer_to-layer.false (c.layer_to.ensures ∙ e))) l.invariant)
    ]

pub returns : goal.returns
returns g c =
    let s = c.args.self.now in
    let w = net s.network in
    noted_end w (deps_of w (g.T.Cells.meant s.cells.now) c.args.layer) [] c.loop-destination.destination c.loop-destination.noted.marks w.nodes (let q = ap (λ (v : Topology). v.nodes) c.wiring.ensures in omega arith) c.loop-destination.invariant
