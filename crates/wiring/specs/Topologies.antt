-- The meaning of a wiring: its nodes, its layers and its links, each link a pair of channels.
use Rattle.std.specs.Prelude.{ℕ, ◌+◌, ◌-◌, ◌*◌, ◌/◌, ◌%◌, ◌<◌, ◌≤◌, Bool, cond, ◌&&◌, List, [], ◌∷◌, length, Some, None, Option, ◌==◌, ◌≢◌, nat_lt, slice_index_or}
use Rattle.wiring.specs.Lists.{range}

-- a link: its first and its second end
pub record Topology : Type 0 where
  pub nodes : ℕ
  pub layers : ℕ
  pub links : List (ℕ × ℕ)

abbrev pub channels : Topology → ℕ
channels w = 2 * length w.links

abbrev pub all_channels : Topology → List ℕ
all_channels w = range 0 (channels w)

abbrev pub all_nodes : Topology → List ℕ
all_nodes w = range 0 w.nodes

-- the channel of the same link in the other direction
abbrev pub partner : ℕ → ℕ
partner c = cond (c % 2 == 0) (c + 1) (c - 1)

-- there are at most 240 channels, and each has its partner
abbrev pub partner_answer : ℕ → Option ℕ
partner_answer c = cond (nat_lt c 240) (Some (partner c)) None

-- channel 2j runs from the first end of link j to the second, channel 2j + 1 back
abbrev pub end_of : ℕ → ℕ × ℕ → ℕ
end_of c e = cond (c % 2 == 0) e.0 e.1

-- where a channel starts; 0 where there is no such channel
abbrev pub from : Topology → ℕ → ℕ
from w c = end_of c (slice_index_or w.links (c / 2) (0, 0))

-- where it ends
abbrev pub into : Topology → ℕ → ℕ
into w c = from w (partner c)

-- the channel is one of the wiring and starts at n
abbrev pub starts : Topology → ℕ → ℕ → Bool
starts w c n = nat_lt c (channels w) && from w c == n

-- channels that lead from one node to z, each starting where the last ended
pub data Walk (w : Topology) (z : ℕ) : ℕ → List ℕ → Type 0 where
  arrived : Walk w z z []
  along : {c : ℕ} {cs : List ℕ} → c < channels w → Walk w z (into w c) cs → Walk w z (from w c) (c ∷ cs)

-- some walk leads from n to m
abbrev pub Joined : Topology → ℕ → ℕ → Type 0
Joined w n m = (cs : List ℕ) × Walk w m n cs

-- what a wiring keeps to
pub record Valid (w : Topology) : Type 0 where
  pub some_nodes : 1 ≤ w.nodes
  pub few_nodes : w.nodes ≤ 64
  pub some_layers : 1 ≤ w.layers
  pub few_layers : w.layers ≤ 8
  pub few_links : length w.links ≤ 120
  pub ends : (c : ℕ) → c < channels w → (from w c < w.nodes) × (from w c ≢ into w c)
  pub joined : (n : ℕ) → n < w.nodes → Joined w n 0
