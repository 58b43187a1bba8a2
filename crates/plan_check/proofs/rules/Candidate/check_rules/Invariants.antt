use Rattle.std.proofs.Common.{◌≡◌, ℕ, ◌<◌, None}
use Rattle.wiring.specs.Lists.{first_some}
use Rattle.wiring.specs.Topologies.{all_nodes}
use Rattle.wiring.specs.Wirings.{topology}
use Rattle.plan_check.specs.Rules.{cell_fault}
use Rattle.plan_check.proofs.rules.Candidate.check_rules.Given as goal

abbrev pub invariant-loop-destination : goal.invariant-loop-destination
invariant-loop-destination g l = (k : ℕ) → k < l.destination → first_some (cell_fault (topology l.self.wiring.now) (g.T.Cells.meant l.self.cells.now) k) (all_nodes (topology l.self.wiring.now)) ≡ None
