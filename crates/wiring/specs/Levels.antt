-- Levels: each node's least number of channels to a root, found round by round.
use Rattle.std.specs.Prelude.{◌≡◌, ℕ, suc, ◌-◌, ◌<◌, ◌≤◌, true, false, not, ◌&&◌, List, ◌++◌, length, set, replicate, is_some, Some, None, Option, ◌==◌, slice_index_or, slice_set}
use Rattle.wiring.specs.Lists.{fold}
use Rattle.wiring.specs.Topologies.{Topology, Walk, from, into, all_channels, all_nodes}

-- in round i a channel from b into a node a of level i gives b the next level, unless it has one
abbrev pub spread : ℕ → List (Option ℕ) → ℕ → ℕ → List (Option ℕ)
spread i acc b a = elim (slice_index_or acc a None) [
  | None ↦ acc
  | Some x ↦ elim (x == i && not (is_some (slice_index_or acc b None))) [ true ↦ set acc b (Some (suc i)) | false ↦ acc ]
]

abbrev pub level_step : Topology → ℕ → List (Option ℕ) → ℕ → List (Option ℕ)
level_step w i acc c = spread i acc (from w c) (into w c)

abbrev pub level_round : Topology → List (Option ℕ) → ℕ → List (Option ℕ)
level_round w ls i = fold (level_step w i) ls (all_channels w)

-- None where no channels lead to the root
abbrev pub levels : Topology → ℕ → List (Option ℕ)
levels w root = fold (level_round w) (slice_set (replicate w.nodes None) root (Some 0)) (all_nodes w)

-- in room for 64
abbrev pub padded : List (Option ℕ) → List (Option ℕ)
padded ls = ls ++ replicate (64 - length ls) None

-- a level is the length of some walk to the root, and no walk to it is shorter
pub record LeastLevel (w : Topology) (root n l : ℕ) : Type 0 where
  pub walk : (cs : List ℕ) × Walk w root n cs × (length cs ≡ l)
  pub least : (cs : List ℕ) → Walk w root n cs → l ≤ length cs

-- every node has its level below a root that is a node
abbrev pub LevelsLeast : Topology → ℕ → List (Option ℕ) → Type 0
LevelsLeast w root ls = root < w.nodes → (n : ℕ) → n < w.nodes → (l : ℕ) × (slice_index_or ls n None ≡ Some l) × LeastLevel w root n l
