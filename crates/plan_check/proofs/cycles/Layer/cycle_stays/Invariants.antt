use Rattle.std.proofs.Common.{not, count_by}
use Rattle.wiring.specs.Networks.{net}
use Rattle.plan_check.specs.Cycles.{Deps}
use Rattle.plan_check.specs.Marks.{Noted, Grounded}
use Rattle.plan_check.proofs.cycles.Layer.cycle_stays.Given as goal

abbrev pub invariant-loop : goal.invariant-loop
invariant-loop l = (D : Deps) → Noted (net l.self.network.now) l.self.noted.now.marks D → Grounded D l.gone.marks

abbrev pub decreases-loop : goal.decreases-loop
decreases-loop l = count_by not l.gone.marks
