use Rattle.std.proofs.Common.{ap, ◌∙◌}
use Rattle.wiring.specs.Networks.{net}
use Rattle.wiring.specs.Topologies.{into}
use Rattle.wiring.proofs.HeldLaws.{valid}
use Rattle.wiring.proofs.TopologyLaws.{inside_of}
use Rattle.plan_check.proofs.NotingLaws.{hops_follow}
use Rattle.plan_check.proofs.sound.SoundCells.dependency_at.Goals as goal

pub returns-in-Hop-cell-clause-within : goal.returns-in-Hop-cell-clause-within
returns-in-Hop-cell-clause-within g c =
    let s = c.args.self.now in
    let t = g.T.Cells.meant s.cells.now in
    let known = c.requires.known in
    hops_follow (net s.network) t s.sound (inside_of (valid s.network.wiring.now)) c.args.destination c.args.node c.in-Hop.channel _ c.in-Hop-cell.on _ known.0 known.1 c.in-Hop.ensures (c.in-Hop-cell.ensures ∙ ap (t c.args.destination) (c.into-next.ensures ∙ ap (λ w. into w c.in-Hop.channel) c.wiring.ensures))
