use Rattle.std.proofs.Common.{◌≡◌}
use Rattle.wiring.specs.Levels.{padded}
use Rattle.tree.specs.Escapes.{descend, escape_routes}
use Rattle.tree.specs.Trees.{net_of, ups_of}
use Rattle.tree.proofs.UpLaws.{level}
use Rattle.tree.proofs.trees.EscapeTree.routes_to.Given as goal

-- what is left of the descent leads to the routes
abbrev pub invariant-loop-channel : goal.invariant-loop-channel
invariant-loop-channel l =
    let w = net_of l.self in
    let us = ups_of l.self in
    descend w us (level w l.self.root l.node) l.node l.routes ≡ padded (escape_routes w us l.destination)

abbrev pub decreases-loop-channel : goal.decreases-loop-channel
decreases-loop-channel l = level (net_of l.self) l.self.root l.node
