-- The dependencies of sound cells, one by one and noted as marks.
use Rattle.std.proofs.Common.{◌≡◌, ℕ, zero, suc, ◌+◌, ◌*◌, ◌<◌, ◌≤◌, Bool, true, false, ◌&&◌, ◌||◌, eqb, List, [], ◌∷◌, length, get_or, set, replicate, sym, refl, ap, ◌∙◌, subst, ⊎_elim, zero-add, add-one, arith}
use Rattle.std.proofs.lemmas.List.{get_or-set_same, get_or-set_other}
use Rattle.std.proofs.lemmas.Bool.{false≢true, eq-eqb, ne_eqb, eqb-true, eqb-false}
use Rattle.wiring.specs.declared.table.Cell.TheVariants.{Hop}
use Rattle.wiring.specs.Lists.{range, fold}
use Rattle.wiring.specs.Tables.{Table}
use Rattle.wiring.specs.Topologies.{Topology, channels, from, into, all_nodes}
use Rattle.wiring.proofs.TopologyLaws.{Inside, into_inside}
use Rattle.plan_check.specs.Cycles.{Deps, has}
use Rattle.plan_check.specs.Rules.{Sound, layer_of, dep_at, deps_of}
use Rattle.plan_check.specs.Marks.{mark, Follows, Noted}
use Rattle.plan_check.proofs.CycleLaws.{Has, has_cases}
use Rattle.plan_check.proofs.CheckLaws.{onward_from, same_hop}

-- ---- one dependency

module _ (w : Topology) (t : Table) (sound : Sound w t) (inside : Inside w) (d n c v : ℕ) (to : d < w.nodes) (at : n < w.nodes) (q : Hop c v ≡ t d n) where
  here : (c < channels w) × (from w c ≡ n)
  here =
      let a = onward_from w t sound d n c v to at (sym q) in
      let same = (same_hop _ _ _ _ (sym a.cell ∙ sym q)).0 in
      (subst (λ x. x < channels w) same a.within, ap (from w) (sym same) ∙ a.starts_here)

  pub hop_within : c < channels w
  hop_within = here.0

  pub hop_starts : from w c ≡ n
  hop_starts = here.1

pub hops_follow : (w : Topology) (t : Table) → Sound w t → Inside w → (d n c v e u : ℕ) → d < w.nodes → n < w.nodes → Hop c v ≡ t d n → Hop e u ≡ t d (into w c) → Follows w c e
hops_follow w t s i d n c v e u to at q r =
    let a = hop_within w t s i d n c v to at q in
    let m = into_inside w i c a in
    (a, hop_within w t s i d (into w c) e u to m r, hop_starts w t s i d (into w c) e u to m r)

pub deps_yes : (w : Topology) (t : Table) (v d : ℕ) (D : Deps) → layer_of t d ≡ v → deps_of w t v D d ≡ fold (dep_at w t d) D (all_nodes w)
deps_yes w t v d D q = rw (eq-eqb (layer_of t d) v q, deps_of)

pub deps_no : (w : Topology) (t : Table) (v d : ℕ) (D : Deps) → (layer_of t d ≡ v → ⊥) → deps_of w t v D d ≡ D
deps_no w t v d D ne = rw (ne_eqb (layer_of t d) v ne, deps_of)

-- ---- marks

noted_push : (w : Topology) (xs : List Bool) (D : Deps) (a b : ℕ) → length xs ≡ 57600 → channels w ≤ 240 → Follows w a b → Noted w xs D → Noted w (set xs (240 * a + b) true) ((a, b) ∷ D)
noted_push w xs D a b l m h N = record { same = same; follows = follows }
  where
    room : (a < 240) × (b < 240)
    room = (let x = h.0 in omega arith, let y = h.1 in omega arith)

    same : (c e : ℕ) → c < 240 → e < 240 → mark (set xs (240 * a + b) true) c e ≡ has c e ((a, b) ∷ D)
    same c e p q = go (eqb a c) (eqb b e) refl refl
      where
        go : (u v : Bool) → eqb a c ≡ u → eqb b e ≡ v → mark (set xs (240 * a + b) true) c e ≡ ((u && v) || has c e D)
        go true true i j = ap (λ z. get_or (set xs (240 * a + b) true) z false) (omega (arith, eqb-true a c i, eqb-true b e j)) ∙ get_or-set_same xs (240 * a + b) true false (omega (arith, room.0, room.1))
        go true false i j = get_or-set_other xs (240 * a + b) (240 * c + e) true false (λ z. eqb-false b e j (omega (arith, eqb-true a c i))) ∙ N.same c e p q
        go false v i j = get_or-set_other xs (240 * a + b) (240 * c + e) true false (λ z. eqb-false a c i (omega (arith, room.0, room.1))) ∙ N.same c e p q

    follows : (c e : ℕ) → Has ((a, b) ∷ D) c e → Follows w c e
    follows c e p = ⊎_elim (λ (i : (a ≡ c) × (b ≡ e)). subst (λ x. Follows w x e) i.0 (subst (λ y. Follows w a y) i.1 h)) (N.follows c e) (has_cases (a, b) D c e p)

pub all_false : (k i : ℕ) → get_or (replicate k false) i false ≡ false
all_false zero i = refl
all_false (suc k) zero = refl
all_false (suc k) (suc i) = all_false k i

pub none_noted : (w : Topology) (k : ℕ) → Noted w (replicate k false) []
none_noted w k = record { same = λ c e h l. all_false k (240 * c + e); follows = λ c e h. absurd (false≢true h) }

-- ---- folds along a range

fold_push : {S : Type 0} (f : S → ℕ → S) (s : S) (i n : ℕ) → fold f s (range i (suc n)) ≡ f (fold f s (range i n)) (i + n)
fold_push f s i zero = ap (f s) (omega arith)
fold_push f s i (suc n) = fold_push f (f s i) (suc i) n ∙ ap (f (fold f s (range i (suc n)))) (omega arith)

module _ (w : Topology) (f : Deps → ℕ → Deps) (D : Deps) (i : ℕ) where
  abbrev pub upto : ℕ → Deps
  upto k = fold f D (range 0 k)

  step : upto (i + 1) ≡ f (upto i) i
  step = ap upto (add-one i) ∙ fold_push f D 0 i ∙ ap (f (upto i)) (zero-add i)

  -- nothing more is noted
  pub noted_idle : (xs : List Bool) → f (upto i) i ≡ upto i → Noted w xs (upto i) → Noted w xs (upto (i + 1))
  noted_idle xs e h = subst (λ (E : Deps). Noted w xs E) (sym (step ∙ e)) h

  -- what the step notes
  pub noted_step : (xs : List Bool) (E : Deps) → f (upto i) i ≡ E → Noted w xs E → Noted w xs (upto (i + 1))
  noted_step xs E e h = subst (λ (F : Deps). Noted w xs F) (sym (step ∙ e)) h

  -- one dependency more
  pub noted_more : (xs : List Bool) (a b : ℕ) → length xs ≡ 57600 → channels w ≤ 240 → Follows w a b → f (upto i) i ≡ (a, b) ∷ upto i → Noted w xs (upto i) → Noted w (set xs (240 * a + b) true) (upto (i + 1))
  noted_more xs a b l m h e N = noted_step (set xs (240 * a + b) true) ((a, b) ∷ upto i) e (noted_push w xs (upto i) a b l m h N)

  pub noted_end : (xs : List Bool) (j : ℕ) → i ≡ j → Noted w xs (upto i) → Noted w xs (upto j)
  noted_end xs j e h = subst (λ (k : ℕ). Noted w xs (upto k)) e h
