use Rattle.std.proofs.Common.{ap, arith}
use Rattle.wiring.specs.Networks.{net}
use Rattle.wiring.specs.Topologies.{Topology}
use Rattle.wiring.proofs.LaidLaws.{few_channels}
use Rattle.plan_check.specs.Rules.{dep_at}
use Rattle.plan_check.proofs.NotingLaws.{upto, noted_idle, noted_more, noted_end}
use Rattle.plan_check.proofs.sound.SoundCells.note_to.Goals as goal
use Rattle.plan_check.proofs.sound.SoundCells.note_to.Goals.{in-Some, in_default}

pub loop-node-preserved : goal.loop-node-preserved
loop-node-preserved g c = λ D N.
    let s = c.args.self.now in
    let w = net s.network in
    let f = dep_at w (g.T.Cells.meant s.cells.now) c.args.destination in
    let l = c.loop-node in
    let before = upto w f D l.node l.node in
    elim c.match-dependency_at.branch [
      | in-Some b ↦ let p = b.in-Some.dependency in rw b.noted-is (rw b.insert.ensures (rw b.place.ensures (noted_more w f D l.node l.noted.marks p.channel p.on l.noted.size (few_channels s.network.wiring.now) b.in-Some.ensures.within (b.in-Some.ensures.same before) (l.invariant D N))))
      | in_default b ↦ rw b.noted-is (noted_idle w f D l.node l.noted.marks (b.in_default.ensures.same before) (l.invariant D N))
    ]

pub returns : goal.returns
returns g c = λ D N.
    let s = c.args.self.now in
    let w = net s.network in
    noted_end w (dep_at w (g.T.Cells.meant s.cells.now) c.args.destination) D c.loop-node.node c.loop-node.noted.marks w.nodes (let q = ap (λ (v : Topology). v.nodes) c.wiring.ensures in omega arith) (c.loop-node.invariant D N)
