use Rattle.std.proofs.Common.{sym, subst}
use Rattle.wiring.proofs.LaidLaws.{few_channels}
use Rattle.marks.specs.Marked.{marked}
use Rattle.tree.specs.Dependencies.{dep_of}
use Rattle.tree.specs.Marking.{Adds}
use Rattle.tree.specs.Trees.{net_of}
use Rattle.tree.proofs.MarkingLaws.{node_gains}
use Rattle.tree.proofs.trees.EscapeTree.mark_node.Goals as goal

pub returns-in-Some : goal.returns-in-Some
returns-in-Some c =
    let w = net_of c.args.self.now in
    let vs = c.args.routes.now in
    let was = marked c.args.marks.now in
    subst (Adds (dep_of w vs) c.args.node was) (sym c.set_used.ensures)
    (node_gains w vs c.args.node was c.in-Some.dependency c.in-Some.ensures c.requires (few_channels c.args.self.now.wiring.now))
