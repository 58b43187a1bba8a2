use Rattle.wiring.specs.Wirings.{topology}
use Rattle.wiring.proofs.LaidLaws.{Listed}
use Rattle.wiring.proofs.laying.list_own.Given as goal

abbrev pub invariant-loop-channel : goal.invariant-loop-channel
invariant-loop-channel l = Listed (topology l.wiring) l.node l.begin l.initial.held l.channel l.held l.top
