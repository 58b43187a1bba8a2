use Rattle.wiring.specs.Topologies.{all_nodes}
use Rattle.marks.specs.Marked.{marked}
use Rattle.tree.specs.Dependencies.{dep_of}
use Rattle.tree.specs.Trees.{net_of}
use Rattle.tree.proofs.MarkingLaws.{Added}
use Rattle.tree.proofs.trees.EscapeTree.mark_destination.Given as goal

abbrev pub invariant-loop-node : goal.invariant-loop-node
invariant-loop-node l = Added (dep_of (net_of l.self) l.routes) (all_nodes (net_of l.self)) l.node (marked l.initial.marks) (marked l.marks)
