use Rattle.std.proofs.Common.{◌≡◌, ℕ, ◌<◌, None}
use Rattle.wiring.specs.Wirings.{topology}
use Rattle.plan_check.specs.Rules.{cell_fault}
use Rattle.plan_check.proofs.rules.Candidate.check_row.Given as goal

abbrev pub invariant-loop-node : goal.invariant-loop-node
invariant-loop-node g l = (k : ℕ) → k < l.node → cell_fault (topology l.self.wiring.now) (g.T.Cells.meant l.self.cells.now) l.destination k ≡ None
