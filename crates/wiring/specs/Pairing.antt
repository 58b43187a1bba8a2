-- A channel and its partner.
use Rattle.std.specs.Prelude.{◌≡◌, ℕ, ◌<◌, Some, None, Option}
use Rattle.wiring.specs.Topologies.{partner_answer}

-- the partner is a channel whose partner is the channel
abbrev pub Paired : ℕ → Option ℕ → Type 0
Paired c None = Unit {0}
Paired c (Some p) = (p < 240) × (partner_answer p ≡ Some c)
