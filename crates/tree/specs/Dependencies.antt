-- The dependencies of escape routes.
use Rattle.std.specs.Prelude.{◌≡◌, ℕ, ◌<◌, true, false, List, [], ◌∷◌, length, Some, None, Option, slice_index, slice_index_or}
use Rattle.wiring.specs.declared.dependencies.Dependency.{Dependency}
use Rattle.wiring.specs.Lists.{fold}
use Rattle.wiring.specs.Topologies.{Topology, into, all_nodes}
use Rattle.plan_check.specs.Cycles.{Deps, has}
use Rattle.tree.specs.Escapes.{escape_routes}

-- the dependency of the channel of n on that of the node where it ends
abbrev pub dep_of : Topology → List (Option ℕ) → Deps → ℕ → Deps
dep_of w vs acc n = elim (slice_index_or vs n None) [
  | None ↦ acc
  | Some c ↦
      elim (slice_index_or vs (into w c) None) [ None ↦ acc | Some e ↦ elim (has c e acc) [ true ↦ acc | false ↦ (c, e) ∷ acc ] ]
]

-- that dependency alone; none where either node has no channel
abbrev pub dependency_at : Topology → List (Option ℕ) → ℕ → Option Dependency
dependency_at w vs n = elim (slice_index_or vs n None) [
  | None ↦ None
  | Some c ↦ elim (slice_index_or vs (into w c) None) [ None ↦ None | Some e ↦ Some (record { channel = c; on = e }) ]
]

-- the dependencies of the routes to d, on top of others
abbrev pub deps_to : Topology → List (Option ℕ) → Deps → ℕ → Deps
deps_to w us acc d = fold (dep_of w (escape_routes w us d)) acc (all_nodes w)

-- the dependencies of the routes to some destinations
abbrev pub escape_deps : Topology → List (Option ℕ) → List ℕ → Deps
escape_deps w us ds = fold (deps_to w us) [] ds

-- c is the channel of n, and e that of the node where c ends
abbrev pub Next : Topology → List (Option ℕ) → ℕ → ℕ → ℕ → Type 0
Next w vs n c e = (slice_index_or vs n None ≡ Some c) × (slice_index_or vs (into w c) None ≡ Some e)

-- some route to one of the destinations takes c and then e
abbrev pub Consecutive : Topology → List (Option ℕ) → List ℕ → ℕ → ℕ → Type 0
Consecutive w us ds c e = (k : ℕ) × (k < length ds) × (n : ℕ) × (n < w.nodes) × Next w (escape_routes w us (slice_index ds k)) n c e
