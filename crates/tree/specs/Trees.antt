-- What an escape tree stands for.
use Rattle.std.specs.Prelude.{ℕ, List, Option}
use Rattle.wiring.specs.Topologies.{Topology}
use Rattle.wiring.specs.Wirings.{topology}
use Rattle.tree.specs.declared.trees.EscapeTree.{EscapeTree}
use Rattle.tree.specs.Ups.{up_channels}

-- the wiring
abbrev pub net_of : EscapeTree → Topology
net_of t = topology t.wiring.now

-- its up channels
abbrev pub ups_of : EscapeTree → List (Option ℕ)
ups_of t = up_channels (net_of t) t.root
