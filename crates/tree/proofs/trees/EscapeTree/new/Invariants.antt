use Rattle.wiring.specs.Wirings.{topology}
use Rattle.tree.specs.Ups.{up_channels}
use Rattle.tree.proofs.RoomLaws.{Filled}
use Rattle.tree.proofs.trees.EscapeTree.new.Given as goal

abbrev pub invariant-loop-node : goal.invariant-loop-node
invariant-loop-node l = Filled (up_channels (topology l.wiring) l.root) l.node l.ups
