-- Up channels: each node's lowest channel to a node one level nearer to the root.
use Rattle.std.specs.Prelude.{◌≡◌, ℕ, suc, ◌<◌, Bool, ◌&&◌, List, map, get_or, Some, None, Option, ◌==◌, slice_index_or}
use Rattle.std.specs.List.{find}
use Rattle.wiring.specs.Lists.{first_that}
use Rattle.wiring.specs.Topologies.{Topology, channels, from, into, all_channels, all_nodes}
use Rattle.wiring.specs.Levels.{levels}
use Rattle.wiring.specs.Owned.{own}

abbrev pub or_zero : Option ℕ → ℕ
or_zero None = 0
or_zero (Some a) = a

-- the level at a, as a number, is one below that at b
abbrev pub one_below : List (Option ℕ) → ℕ → ℕ → Bool
one_below ls a b = suc (or_zero (slice_index_or ls a None)) == or_zero (slice_index_or ls b None)

-- the lowest of a node's own channels that leads to a node one level nearer, by levels in any room
abbrev pub up_among : Topology → List (Option ℕ) → ℕ → Option ℕ
up_among w ls n = find (λ c. one_below ls (into w c) n) (own w n)

-- the channel leads from n to a node one level nearer to the root
abbrev pub nearer : Topology → List (Option ℕ) → ℕ → ℕ → Bool
nearer w ls n c = from w c == n && one_below ls (into w c) n

-- each node's lowest channel to a node one level nearer
abbrev pub up_channels : Topology → ℕ → List (Option ℕ)
up_channels w root = map (λ n. first_that (nearer w (levels w root) n) (all_channels w)) (all_nodes w)

-- c starts at n and ends one level nearer to the root
pub record Nearer (w : Topology) (root n c : ℕ) : Type 0 where
  pub known : c < channels w
  pub leaves : from w c ≡ n
  pub level : ℕ
  pub ends_at : get_or (levels w root) (into w c) None ≡ Some level
  pub starts_at : get_or (levels w root) n None ≡ Some (suc level)

-- what is answered is the lowest such channel; none only where there is none, which is the root alone
abbrev pub Up : Topology → ℕ → ℕ → Option ℕ → Type 0
Up w root n (Some c) = Nearer w root n c × ((e : ℕ) → e < c → Nearer w root n e → ⊥)
Up w root n None = ((e : ℕ) → Nearer w root n e → ⊥) × (root < w.nodes → n < w.nodes → n ≡ root)
