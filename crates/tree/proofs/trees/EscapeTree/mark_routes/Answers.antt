use Rattle.std.proofs.Common.{[], refl}
use Rattle.wiring.proofs.HeldLaws.{valid}
use Rattle.marks.specs.Marked.{marked}
use Rattle.tree.specs.Dependencies.{deps_to}
use Rattle.tree.specs.Trees.{net_of, ups_of}
use Rattle.tree.proofs.MarkingLaws.{added_more, added_all, marked_exactly, marked_free}
use Rattle.tree.proofs.trees.EscapeTree.mark_routes.Goals as goal

pub loop-destination-preserved : goal.loop-destination-preserved
loop-destination-preserved c =
    let t = c.args.self.now in
    added_more (deps_to (net_of t) (ups_of t)) c.args.destinations.now (marked c.args.marks.now) c.loop-destination.destination-index (marked c.loop-destination.marks) (marked c.mark_destination.new.marks) c.loop-destination-test.true c.loop-destination.invariant c.mark_destination.ensures

pub returns : goal.returns
returns c =
    let t = c.args.self.now in
    let w = net_of t in
    let v = valid t.wiring.now in
    let ds = c.args.destinations.now in
    let was = marked c.args.marks.now in
    let after = marked c.loop-destination.marks in
    let is = added_all (deps_to w (ups_of t)) ds was c.loop-destination.destination-index after c.loop-destination-test.false c.loop-destination.invariant was [] refl in
    record { answer = is; exact = marked_exactly w t.root v ds was after is; free = marked_free w t.root v ds was after is }
