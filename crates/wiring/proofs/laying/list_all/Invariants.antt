use Rattle.std.proofs.Common.{◌≡◌, ℕ, ◌≤◌, length, get_or, take}
use Rattle.wiring.specs.Owned.{laid}
use Rattle.wiring.specs.Wirings.{topology}
use Rattle.wiring.proofs.laying.list_all.Given as goal

abbrev pub invariant-loop-node : goal.invariant-loop-node
invariant-loop-node l =
    ((i : ℕ) → i ≤ l.node → get_or l.begins i 0 ≡ length (laid (topology l.wiring) i))
    × (take (length (laid (topology l.wiring) l.node)) l.held ≡ laid (topology l.wiring) l.node)
