-- Forwarding cells, the rules that they keep, and the verdict of the check.
use Rattle.std.specs.Prelude.{◌≡◌, ℕ, zero, suc, ◌<◌, true, false, [], ◌∷◌, Some, None, Option, ◌==◌, nat_lt}
use Rattle.fault.specs.declared.faults.Fault.{Fault}
use Rattle.fault.specs.declared.faults.Fault.TheVariants.{OwnCellFilled, CellEmpty, StartsElsewhere, LayerTooHigh, LayerDiffers, Cycle as CycleFault}
use Rattle.wiring.specs.Lists.{range, first_some, fold, or_else}
use Rattle.wiring.specs.Topologies.{Topology, from, into, starts, all_nodes}
use Rattle.wiring.specs.Tables.{Table}
use Rattle.wiring.specs.declared.table.Cell.{Cell}
use Rattle.wiring.specs.declared.table.Cell.TheVariants.{Empty, Hop}
use Rattle.plan_check.specs.Cycles.{Deps, acyclic, Cycle}

abbrev pub lowest_other : ℕ → ℕ
lowest_other zero = 1
lowest_other (suc d) = 0

abbrev pub layer_in : Cell → ℕ
layer_in Empty = 0
layer_in (Hop c v) = v

-- the layer of a destination: the one in the cell for it of the lowest other node
abbrev pub layer_of : Table → ℕ → ℕ
layer_of t d = layer_in (t d (lowest_other d))

abbrev pub own_cell : ℕ → ℕ → Cell → Option Fault
own_cell d n Empty = None
own_cell d n (Hop c v) = Some (OwnCellFilled d n)

abbrev pub other_cell : Topology → Table → ℕ → ℕ → Cell → Option Fault
other_cell w t d n Empty = Some (CellEmpty d n)
other_cell w t d n (Hop c v) = elim (starts w c n) [ false ↦ Some (StartsElsewhere d n) | true ↦ elim (nat_lt v w.layers) [ false ↦ Some (LayerTooHigh d n) | true ↦ elim (v == layer_of t d) [ false ↦ Some (LayerDiffers d n) | true ↦ None ] ] ]

-- the rule that one cell breaks, the lowest number first
abbrev pub cell_fault : Topology → Table → ℕ → ℕ → Option Fault
cell_fault w t d n = elim (d == n) [ true ↦ own_cell d n (t d n) | false ↦ other_cell w t d n (t d n) ]

-- every cell keeps its rules
abbrev pub Sound : Topology → Table → Type 0
Sound w t = (d n : ℕ) → d < w.nodes → n < w.nodes → cell_fault w t d n ≡ None

-- the first faulty cell in sheet order
abbrev pub first_fault : Topology → Table → Option Fault
first_fault w t = first_some (λ d. first_some (cell_fault w t d) (all_nodes w)) (all_nodes w)

-- channel c depends on channel e in layer v
pub record Depends (w : Topology) (t : Table) (v c e : ℕ) : Type 0 where
  pub dest : ℕ
  pub known : dest < w.nodes
  pub layer : layer_of t dest ≡ v
  pub here : t dest (from w c) ≡ Hop c v
  pub short : into w c ≡ dest → ⊥
  pub next : t dest (into w c) ≡ Hop e v

-- a plan passes: it breaks none of the rules
pub record Passes (w : Topology) (t : Table) : Type 0 where
  pub each : (d n : ℕ) → d < w.nodes → n < w.nodes → cell_fault w t d n ≡ None
  pub no_cycle : (v : ℕ) → v < w.layers → Cycle (Depends w t v) → ⊥

-- the dependencies of a layer, listed
abbrev pub dep_at : Topology → Table → ℕ → Deps → ℕ → Deps
dep_at w t d acc n = elim (t d n) [ Empty ↦ acc | Hop c v ↦ elim (into w c == d) [ true ↦ acc | false ↦ elim (t d (into w c)) [ Empty ↦ acc | Hop e u ↦ (c, e) ∷ acc ] ] ]

abbrev pub deps_of : Topology → Table → ℕ → Deps → ℕ → Deps
deps_of w t v acc d = elim (layer_of t d == v) [ true ↦ fold (dep_at w t d) acc (all_nodes w) | false ↦ acc ]

abbrev pub deps_in : Topology → Table → ℕ → Deps
deps_in w t v = fold (deps_of w t v) [] (all_nodes w)

abbrev pub layer_fault : Topology → Table → ℕ → Option Fault
layer_fault w t v = elim (acyclic (deps_in w t v)) [ true ↦ None | false ↦ Some (CycleFault v) ]

-- the first faulty cell in sheet order decides, and after all cells the lowest layer with a cycle
abbrev pub verdict : Topology → Table → Option Fault
verdict w t = or_else (first_fault w t) (first_some (layer_fault w t) (range 0 w.layers))
