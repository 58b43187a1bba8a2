use Rattle.wiring.specs.Networks.{net}
use Rattle.wiring.proofs.LaidLaws.{few_channels}
use Rattle.plan_check.proofs.SweepLaws.{none_gone, stays_answer}
use Rattle.plan_check.proofs.cycles.Layer.cycle_stays.Goals as goal

pub loop-init : goal.loop-init
loop-init c = λ D N. rw c.new-gone.ensures (none_gone 240 D)

pub returns : goal.returns
returns c = λ D N.
    let s = c.args.self.now in
    let w = net s.network.now in
    let swept = c.sweep.ensures in
    stays_answer w s.noted.now.marks c.sweep.new.gone.marks D c.any_left.result (few_channels s.network.now.wiring.now) N (swept.stuck c.loop-test.false) (swept.grounded D N (c.loop.invariant D N)) c.any_left.ensures
