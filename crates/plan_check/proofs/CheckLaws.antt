-- The check is exact: its verdict is none where, and only where, a plan passes.
use Rattle.std.proofs.Common.{◌≡◌, ℕ, ◌+◌, ◌/◌, ◌%◌, ◌<◌, ◌≤◌, Bool, true, false, cond, eqb, ltb, ◌⊎◌, [], ◌∷◌, Some, None, Option, sym, refl, ap, ◌∙◌, subst, ap₂, inl, inr, ⊎_elim, arith}
use Rattle.std.proofs.lemmas.List.{get_or_past}
use Rattle.std.proofs.lemmas.Bool.{and_parts, eqb-true, eqb-false, eq-eqb, ne_eqb, ltb-true, cases_lt, false≢true}
use Rattle.fault.specs.declared.faults.Fault.{Fault}
use Rattle.fault.specs.declared.faults.Fault.TheVariants.{StartsElsewhere, LayerTooHigh, LayerDiffers, Cycle as CycleFault}
use Rattle.wiring.specs.Lists.{range, first_some, fold, or_else}
use Rattle.wiring.proofs.SoundnessLaws.{neither}
use Rattle.wiring.proofs.TopologyLaws.{inside_of, into_inside}
use Rattle.wiring.specs.Topologies.{Topology, Valid, channels, from, into, starts, all_nodes}
use Rattle.plan_check.specs.Cycles.{Deps, acyclic}
use Rattle.wiring.specs.declared.table.Cell.{Cell}
use Rattle.wiring.specs.declared.table.Cell.TheVariants.{Empty, Hop}
use Rattle.wiring.specs.Tables.{Table}
use Rattle.plan_check.specs.Rules.{layer_of, own_cell, other_cell, cell_fault, Depends, Passes, dep_at, deps_of, deps_in, layer_fault, first_fault, verdict}
use Rattle.plan_check.specs.Verdicts.{VerdictIsExact}
use Rattle.plan_check.proofs.CycleLaws.{Has, has_cases, has_here, has_later, cycle_map, acyclic_no_cycle, acyclic_if_no_cycle}
use Rattle.plan_check.proofs.SearchedLaws.{some≢none, fold_keeps, fold_cases, fold_adds, all_none, none_found}

-- Ends of channels.

pub into_within : (w : Topology) → Valid w → (c : ℕ) → c < channels w → into w c < w.nodes
into_within w v c h = into_inside w (inside_of v) c h

-- also of a number that is no channel of the wiring
pub from_within : (w : Topology) → Valid w → (c : ℕ) → from w c < w.nodes
from_within w v c = ⊎_elim (λ h. (v.ends c h).0) (λ h. past h) (cases_lt c (channels w))
  where
    either : (b : Bool) → cond b 0 0 < w.nodes
    either true = v.some_nodes
    either false = v.some_nodes

    past : channels w ≤ c → from w c < w.nodes
    past h = rw (get_or_past w.links (c / 2) (0, 0) (omega arith)) (either (eqb (c % 2) 0))

-- Sound cells.

abbrev pub Sound : Topology → Table → Type 0
Sound w t = (d n : ℕ) → d < w.nodes → n < w.nodes → cell_fault w t d n ≡ None

-- what a sound cell of another node holds
pub record Onward (w : Topology) (t : Table) (d n : ℕ) : Type 0 where
  pub channel : ℕ
  pub cell : t d n ≡ Hop channel (layer_of t d)
  pub within : channel < channels w
  pub starts_here : from w channel ≡ n
  pub low : layer_of t d < w.layers

Hop≢Empty : (c v : ℕ) → Hop c v ≡ Empty → ⊥
Hop≢Empty c v q = let z : ◌≡◌ {A = ℕ} 0 1 = cc in omega arith

pub same_hop : (c e u v : ℕ) → Hop c u ≡ Hop e v → (c ≡ e) × (u ≡ v)
same_hop c e u v q = (cc, cc)

pub own_blank : (w : Topology) (t : Table) (d n : ℕ) → cell_fault w t d n ≡ None → d ≡ n → t d n ≡ Empty
own_blank w t d n q e = go (t d n) (rw (eq-eqb d n e, cell_fault) at q)
  where
    go : (x : Cell) → own_cell d n x ≡ None → x ≡ Empty
    go Empty r = refl
    go (Hop c v) r = absurd (some≢none _ r)

-- the fault of a filled cell by its three tests
abbrev ruled : ℕ → ℕ → Bool → Bool → Bool → Option Fault
ruled d n a b s = elim a [ false ↦ Some (StartsElsewhere d n) | true ↦ elim b [ false ↦ Some (LayerTooHigh d n) | true ↦ elim s [ false ↦ Some (LayerDiffers d n) | true ↦ None ] ] ]

pub onward_at : (w : Topology) (t : Table) (d n : ℕ) → cell_fault w t d n ≡ None → (d ≡ n → ⊥) → Onward w t d n
onward_at w t d n q ne = go (t d n) refl (rw (ne_eqb d n ne, cell_fault) at q)
  where
    tests : (c v : ℕ) → t d n ≡ Hop c v → (a b s : Bool) → starts w c n ≡ a → ltb v w.layers ≡ b → eqb v (layer_of t d) ≡ s → ruled d n a b s ≡ None → Onward w t d n
    tests c v e true true true i j k r =
        let (l, m) = and_parts (ltb c (channels w)) (eqb (from w c) n) i in
        let s = eqb-true v (layer_of t d) k in
        record { channel = c; cell = e ∙ ap (λ x. Hop c x) s; within = ltb-true _ _ l; starts_here = eqb-true _ _ m; low = subst (λ (x : ℕ). x < w.layers) s (ltb-true _ _ j) }
    tests c v e true true false i j k r = absurd (some≢none _ r)
    tests c v e true false s i j k r = absurd (some≢none _ r)
    tests c v e false b s i j k r = absurd (some≢none _ r)

    go : (x : Cell) → t d n ≡ x → other_cell w t d n x ≡ None → Onward w t d n
    go Empty e r = absurd (some≢none _ r)
    go (Hop c v) e r = tests c v e (starts w c n) (ltb v w.layers) (eqb v (layer_of t d)) refl refl refl r

-- a filled cell is that of another node
pub onward_from : (w : Topology) (t : Table) → Sound w t → (d n c v : ℕ) → d < w.nodes → n < w.nodes → t d n ≡ Hop c v → Onward w t d n
onward_from w t s d n c v k l q = onward_at w t d n (s d n k l) (λ e. Hop≢Empty c v (sym q ∙ own_blank w t d n (s d n k l) e))

-- The list of dependencies.

-- the cells for d of n and of the node that its channel c leads to give the dependency of c on e
abbrev Given : Topology → Table → ℕ → ℕ → ℕ → ℕ → Type 0
Given w t d n c e = (u : ℕ) × (v : ℕ) × (t d n ≡ Hop c u) × (into w c ≡ d → ⊥) × (t d (into w c) ≡ Hop e v)

module _ (w : Topology) (t : Table) (c e : ℕ) where
  dep_at_cases : (d : ℕ) (acc : Deps) (n : ℕ) → Has (dep_at w t d acc n) c e → Has acc c e ⊎ Given w t d n c e
  dep_at_cases d acc n h = go (t d n) refl h
    where
      deep : (x u : ℕ) → t d n ≡ Hop x u → (b : Bool) → eqb (into w x) d ≡ b → (y : Cell) → t d (into w x) ≡ y → Has (elim b [ true ↦ acc | false ↦ elim y [ Empty ↦ acc | Hop z v ↦ (x, z) ∷ acc ] ]) c e → Has acc c e ⊎ Given w t d n c e
      deep x u q true i y j k = inl k
      deep x u q false i Empty j k = inl k
      deep x u q false i (Hop z v) j k = ⊎_elim (λ m. inr (u, v, q ∙ ap (λ a. Hop a u) m.0, subst (λ (a : ℕ). into w a ≡ d → ⊥) m.0 (eqb-false _ _ i), subst (λ (a : ℕ). t d (into w a) ≡ Hop e v) m.0 (j ∙ ap (λ a. Hop a v) m.1))) inl (has_cases (x, z) acc c e k)

      go : (x : Cell) → t d n ≡ x → Has (elim x [ Empty ↦ acc | Hop y v ↦ elim (eqb (into w y) d) [ true ↦ acc | false ↦ elim (t d (into w y)) [ Empty ↦ acc | Hop z u ↦ (y, z) ∷ acc ] ] ]) c e → Has acc c e ⊎ Given w t d n c e
      go Empty q k = inl k
      go (Hop x u) q k = deep x u q (eqb (into w x) d) refl (t d (into w x)) refl k

  dep_at_keeps : (d : ℕ) (acc : Deps) (n : ℕ) → Has acc c e → Has (dep_at w t d acc n) c e
  dep_at_keeps d acc n h = go (t d n)
    where
      deep : (x : ℕ) (b : Bool) (y : Cell) → Has (elim b [ true ↦ acc | false ↦ elim y [ Empty ↦ acc | Hop z v ↦ (x, z) ∷ acc ] ]) c e
      deep x true y = h
      deep x false Empty = h
      deep x false (Hop z v) = has_later (x, z) acc c e h

      go : (x : Cell) → Has (elim x [ Empty ↦ acc | Hop y v ↦ elim (eqb (into w y) d) [ true ↦ acc | false ↦ elim (t d (into w y)) [ Empty ↦ acc | Hop z u ↦ (y, z) ∷ acc ] ] ]) c e
      go Empty = h
      go (Hop x u) = deep x (eqb (into w x) d) (t d (into w x))

  dep_at_adds : (d n : ℕ) → Given w t d n c e → (acc : Deps) → Has (dep_at w t d acc n) c e
  dep_at_adds d n g acc = rw (g.2, dep_at) (rw (ne_eqb _ _ g.3) (rw g.4 (has_here (c, e) acc c e refl refl)))

  abbrev Taken : ℕ → ℕ → Type 0
  Taken v d = (layer_of t d ≡ v) × ((n : ℕ) × (0 ≤ n) × (n < 0 + w.nodes) × Given w t d n c e)

  deps_of_cases : (v : ℕ) (acc : Deps) (d : ℕ) → Has (deps_of w t v acc d) c e → Has acc c e ⊎ Taken v d
  deps_of_cases v acc d h = go (eqb (layer_of t d) v) refl h
    where
      go : (b : Bool) → eqb (layer_of t d) v ≡ b → Has (elim b [ true ↦ fold (dep_at w t d) acc (all_nodes w) | false ↦ acc ]) c e → Has acc c e ⊎ Taken v d
      go true q k = ⊎_elim inl (λ m. inr (eqb-true _ _ q, m)) (fold_cases (dep_at w t d) (λ D. Has D c e) (λ n. Given w t d n c e) (dep_at_cases d) 0 w.nodes acc k)
      go false q k = inl k

  deps_of_keeps : (v : ℕ) (acc : Deps) (d : ℕ) → Has acc c e → Has (deps_of w t v acc d) c e
  deps_of_keeps v acc d h = go (eqb (layer_of t d) v)
    where
      go : (b : Bool) → Has (elim b [ true ↦ fold (dep_at w t d) acc (all_nodes w) | false ↦ acc ]) c e
      go true = fold_keeps (dep_at w t d) (λ D. Has D c e) (dep_at_keeps d) (all_nodes w) acc h
      go false = h

  deps_of_adds : (v d n : ℕ) → layer_of t d ≡ v → n < w.nodes → Given w t d n c e → (acc : Deps) → Has (deps_of w t v acc d) c e
  deps_of_adds v d n q l g acc = rw (eq-eqb _ _ q, deps_of) (fold_adds (dep_at w t d) (λ D. Has D c e) (dep_at_keeps d) n (dep_at_adds d n g) 0 w.nodes acc (omega arith) (omega arith))

  pub listed_depends : Valid w → Sound w t → (v : ℕ) → Has (deps_in w t v) c e → Depends w t v c e
  listed_depends ok s v h = ⊎_elim (λ k. absurd (false≢true k)) (λ k. found k.0 (omega arith) k.3.0 k.3.1.0 (omega arith) k.3.1.3) (fold_cases (deps_of w t v) (λ D. Has D c e) (Taken v) (deps_of_cases v) 0 w.nodes [] h)
    where
      found : (d : ℕ) → d < w.nodes → layer_of t d ≡ v → (n : ℕ) → n < w.nodes → Given w t d n c e → Depends w t v c e
      found d l q n m g =
          let a = onward_from w t s d n c g.0 l m g.2 in
          let i : a.channel ≡ c = (same_hop _ _ _ _ (sym a.cell ∙ g.2)).0 in
          let f : from w c ≡ n = ap (from w) (sym i) ∙ a.starts_here in
          let b = onward_from w t s d (into w c) e g.1 l (into_within w ok c (subst (λ (x : ℕ). x < channels w) i a.within)) g.4 in
          let j : b.channel ≡ e = (same_hop _ _ _ _ (sym b.cell ∙ g.4)).0 in
          record { dest = d; known = l; layer = q; here = ap (t d) f ∙ a.cell ∙ ap₂ Hop i q; short = g.3; next = b.cell ∙ ap₂ Hop j q }

  pub depends_listed : Valid w → (v : ℕ) → Depends w t v c e → Has (deps_in w t v) c e
  depends_listed ok v d = fold_adds (deps_of w t v) (λ D. Has D c e) (deps_of_keeps v) d.dest (deps_of_adds v d.dest (from w c) d.layer (from_within w ok c) (v, v, d.here, d.short, d.next)) 0 w.nodes [] (omega arith) (omega arith)

-- The verdict.

pub layer_fault_none : (w : Topology) (t : Table) (v : ℕ) → acyclic (deps_in w t v) ≡ true → layer_fault w t v ≡ None
layer_fault_none w t v q = rw (q, layer_fault)

pub none_layer_fault : (w : Topology) (t : Table) (v : ℕ) → layer_fault w t v ≡ None → acyclic (deps_in w t v) ≡ true
none_layer_fault w t v q = go (acyclic (deps_in w t v)) q
  where
    go : (b : Bool) → ◌≡◌ {A = Option Fault} (elim b [ true ↦ None | false ↦ Some (CycleFault v) ]) None → b ≡ true
    go true r = refl
    go false r = absurd (some≢none _ r)

pub passes_acyclic : (w : Topology) (t : Table) → Valid w → Passes w t → (v : ℕ) → v < w.layers → acyclic (deps_in w t v) ≡ true
passes_acyclic w t ok p v l = acyclic_if_no_cycle (deps_in w t v) (λ y. p.no_cycle v l (cycle_map (Has (deps_in w t v)) (Depends w t v) (λ c e. listed_depends w t c e ok p.each v) y))

pub verdict_exact : VerdictIsExact
verdict_exact w t ok = (pass, fine)
  where
    row : ℕ → Option Fault
    row d = first_some (cell_fault w t d) (all_nodes w)

    pass : verdict w t ≡ None → Passes w t
    pass q =
        let h = neither (first_fault w t) (first_some (layer_fault w t) (range 0 w.layers)) q in
        let r = h.0 in
        let l = h.1 in
        record {
          each = λ d n k m. all_none (cell_fault w t d) 0 w.nodes (all_none row 0 w.nodes r d (omega arith) (omega arith)) n (omega arith) (omega arith);
          no_cycle = λ v k y. acyclic_no_cycle (deps_in w t v) (none_layer_fault w t v (all_none (layer_fault w t) 0 w.layers l v (omega arith) (omega arith))) (cycle_map (Depends w t v) (Has (deps_in w t v)) (λ c e. depends_listed w t c e ok v) y);
        }

    fine : Passes w t → verdict w t ≡ None
    fine p =
        let r : first_some row (all_nodes w) ≡ None = none_found row 0 w.nodes (λ d k l. none_found (cell_fault w t d) 0 w.nodes (λ n m o. p.each d n (omega arith) (omega arith))) in
        ap (λ (o : Option Fault). or_else o (first_some (layer_fault w t) (range 0 w.layers))) r ∙ none_found (layer_fault w t) 0 w.layers (λ v k l. layer_fault_none w t v (passes_acyclic w t ok p v (omega arith)))
