-- A node's own channels, and the channels into it.
use Rattle.std.specs.Prelude.{◌≡◌, ℕ, zero, suc, ◌<◌, ◌≤◌, List, [], ◌∷◌, ◌++◌, map, filter, nat_eq}
use Rattle.std.specs.List.{ContainsAt, AllByRecursion}
use Rattle.wiring.specs.Topologies.{Topology, channels, partner, from, into, all_channels}

-- the channels that start at n, upward
abbrev pub own : Topology → ℕ → List ℕ
own w n = filter (λ c. nat_eq (from w c) n) (all_channels w)

-- the channels that end at n, upward
abbrev pub inward : Topology → ℕ → List ℕ
inward w n = filter (λ c. nat_eq (into w c) n) (all_channels w)

-- the numbers of a list rise, from low on
abbrev pub Ascends : ℕ → List ℕ → Type 0
Ascends low [] = Unit {0}
Ascends low (x ∷ xs) = (low ≤ x) × Ascends (suc x) xs

-- the own channels of the nodes below n, node by node
abbrev pub laid : Topology → ℕ → List ℕ
laid w zero = []
laid w (suc n) = laid w n ++ own w n

-- what a node's own channels are, in the words of the wiring
pub record Owns (w : Topology) (n : ℕ) (cs : List ℕ) : Type 0 where
  pub start : AllByRecursion (λ c. (c < channels w) × (from w c ≡ n)) cs
  pub every : (c : ℕ) → c < channels w → from w c ≡ n → ContainsAt cs c
  pub rise : Ascends 0 cs
  pub partners : inward w n ≡ map partner cs
  pub partners_rise : Ascends 0 (map partner cs)
