use Rattle.marks.specs.Marked.{marked}
use Rattle.tree.specs.Dependencies.{deps_to}
use Rattle.tree.specs.Trees.{net_of, ups_of}
use Rattle.tree.proofs.MarkingLaws.{Added}
use Rattle.tree.proofs.trees.EscapeTree.mark_routes.Given as goal

abbrev pub invariant-loop-destination : goal.invariant-loop-destination
invariant-loop-destination l = Added (deps_to (net_of l.self) (ups_of l.self)) l.destinations l.destination-index (marked l.initial.marks) (marked l.marks)
