-- What is wrong with a wiring, the lowest number first.
use Rattle.std.specs.Prelude.{◌≡◌, ℕ, suc, ◌<◌, Bool, true, false, not, ◌&&◌, List, [], ◌∷◌, length, is_some, Some, None, Ok, Option, Result, ◌==◌, nat_le, nat_lt, slice_index_or}
use Rattle.std.specs.Option.{option_map}
use Rattle.fault.specs.declared.faults.Fault.{Fault}
use Rattle.fault.specs.declared.faults.Fault.TheVariants.{BodySize, NodeCount, LayerCount, LinkEnds, Unjoined}
use Rattle.wiring.specs.Lists.{first_that, unless, when_not, or_else}
use Rattle.wiring.specs.Topologies.{Topology, Joined, all_nodes}
use Rattle.wiring.specs.Levels.{levels}

abbrev pub among : ℕ → ℕ → ℕ → Bool
among a b x = nat_le a x && nat_le x b

-- the two ends are different nodes
abbrev pub fine_link : ℕ → ℕ × ℕ → Bool
fine_link n e = nat_lt e.0 n && (nat_lt e.1 n && not (e.0 == e.1))

-- the first link from j on that is not fine
abbrev pub bad_link : ℕ → ℕ → List (ℕ × ℕ) → Option ℕ
bad_link n j [] = None
bad_link n j (e ∷ es) = elim (fine_link n e) [ true ↦ bad_link n (suc j) es | false ↦ Some j ]

-- the lowest node that has no level below node 0
abbrev pub unjoined : Topology → Option ℕ
unjoined w = first_that (λ n. not (is_some (slice_index_or (levels w 0) n None))) (all_nodes w)

abbrev pub topology_fault : Topology → Option Fault
topology_fault w =
    when_not (nat_le (length w.links) 120) (BodySize 0)
    (when_not (among 1 64 w.nodes) NodeCount
    (when_not (among 1 8 w.layers) LayerCount
    (or_else (option_map LinkEnds (bad_link w.nodes 0 w.links)) (option_map Unjoined (unjoined w)))))

-- the answer of whoever is to make a wiring
abbrev pub sound_answer : Topology → Result Topology Fault
sound_answer w = unless (topology_fault w) (Ok w)

-- n is the lowest node that no walk joins to node 0
pub record LowestUnjoined (w : Topology) (n : ℕ) : Type 0 where
  pub node : n < w.nodes
  pub apart : Joined w n 0 → ⊥
  pub lower : (m : ℕ) → m < n → Joined w m 0

-- where 8 is told, its node is that one
abbrev pub LowestTold : Topology → Fault → Type 0
LowestTold w f = (n : ℕ) → f ≡ Unjoined n → LowestUnjoined w n
