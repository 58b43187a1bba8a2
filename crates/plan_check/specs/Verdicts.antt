-- The answer of the check, and what it says.
use Rattle.std.specs.Prelude.{◌≡◌, ℕ, List, None, Ok, Result, ◌==◌}
use Rattle.fault.specs.declared.faults.Fault.{Fault}
use Rattle.fault.specs.declared.faults.Fault.TheVariants.{NodeCountDiffers}
use Rattle.fault.specs.Faults.{judged}
use Rattle.wiring.specs.Lists.{after, only_if}
use Rattle.wiring.specs.Tables.{Table}
use Rattle.wiring.specs.Topologies.{Topology, Valid}
use Rattle.sheet.specs.Plans.{read_plan, cells_in}
use Rattle.sheet.specs.Wirings.{read_wiring}
use Rattle.plan_check.specs.Rules.{Passes, verdict}
use Rattle.plan_check.specs.Routes.{AllLead}
use Rattle.plan_check.specs.Packets.{NoDeadlock}

abbrev pub Judged : Type 0
Judged = Result (Unit {0}) Fault

-- cells are accepted exactly where they break no rule
abbrev pub Exact : Topology → Table → Judged → Type 0
Exact w t r = (r ≡ Ok tt → Passes w t) × (Passes w t → r ≡ Ok tt)

-- accepted cells lead from every node to every other, and no route visits a node twice
abbrev pub Arrives : Topology → Table → Judged → Type 0
Arrives w t r = r ≡ Ok tt → AllLead w t

-- over accepted cells, one of every nonempty set of stalled packets is blocked by no other of the set
abbrev pub Moves : Topology → Table → Judged → Type 0
Moves w t r = r ≡ Ok tt → NoDeadlock w t

-- the check of two sheets: the wiring's faults, the plan's, another number of nodes, and then the rules
abbrev pub check_answer : List ℕ → List ℕ → Judged
check_answer ws ps = after (read_wiring ws) (λ w. after (read_plan ps) (λ p. only_if (p.nodes == w.nodes) NodeCountDiffers (judged (verdict w (cells_in p)))))

-- ---- of every valid wiring and every table

abbrev pub VerdictIsExact : Type 0
VerdictIsExact = (w : Topology) (t : Table) → Valid w → (verdict w t ≡ None → Passes w t) × (Passes w t → verdict w t ≡ None)

abbrev pub RoutesArrive : Type 0
RoutesArrive = (w : Topology) (t : Table) → Valid w → Passes w t → AllLead w t

abbrev pub NoPacketsWaitInACircle : Type 0
NoPacketsWaitInACircle = (w : Topology) (t : Table) → Valid w → Passes w t → NoDeadlock w t
