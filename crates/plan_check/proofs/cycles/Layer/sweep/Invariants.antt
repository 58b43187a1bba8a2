use Rattle.wiring.specs.Networks.{net}
use Rattle.plan_check.proofs.SweepLaws.{Sweeping}
use Rattle.plan_check.proofs.cycles.Layer.sweep.Given as goal

abbrev pub invariant-loop-channel : goal.invariant-loop-channel
invariant-loop-channel l = Sweeping (net l.self.network.now) l.self.noted.now.marks l.initial.gone.marks l.channel l.gone.marks l.taken
