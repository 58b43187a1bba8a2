-- The marks of escape routes, node by node and destination by destination.
use Rattle.std.proofs.Common.{◌≡◌, ℕ, ◌+◌, ◌<◌, ◌≤◌, Bool, true, false, cond, ◌&&◌, ◌||◌, eqb, ◌⊎◌, List, [], ◌∷◌, ◌++◌, length, get_or, take, Some, None, Option, sym, refl, ap, ◌∙◌, ap₂, inl, inr, ⊎_elim, arith}
use mathlib.Core.Path.{fun_ext}
use Rattle.std.proofs.lemmas.List.{take_more, take_all}
use Rattle.std.proofs.lemmas.Bool.{and_parts, eqb-true}
use Rattle.wiring.specs.declared.dependencies.Dependency.{Dependency}
use Rattle.wiring.specs.Lists.{fold}
use Rattle.wiring.specs.Levels.{padded}
use Rattle.wiring.specs.Topologies.{Topology, Valid, channels, into}
use Rattle.plan_check.specs.Cycles.{Deps, has}
use Rattle.plan_check.specs.Marks.{Follows}
use Rattle.plan_check.proofs.CycleLaws.{cycle_map}
use Rattle.marks.specs.declared.kinds.Mark.TheVariants.{Unused, Used}
use Rattle.marks.specs.Marked.{View, no_marks, with_mark, with_all}
use Rattle.marks.proofs.MarkedLaws.{in_square_from, same_views}
use Rattle.tree.specs.Ups.{up_channels}
use Rattle.tree.specs.Escapes.{Known}
use Rattle.tree.specs.Dependencies.{dep_of, dependency_at, escape_deps}
use Rattle.tree.specs.Marking.{Adds, MarkedExactly, MarkedFree}
use Rattle.tree.proofs.DependencyLaws.{escape_deps_has, escape_deps_only}
use Rattle.tree.proofs.EscapeLaws.{escape_known, escape_deps_no_cycle}
use Rattle.tree.proofs.RoomLaws.{get_or_padded}

-- ---- one mark

-- one more dependency in front, unless the list has it
abbrev more : Deps → ℕ → ℕ → Deps
more D c e = elim (has c e D) [ true ↦ D | false ↦ (c, e) ∷ D ]

module _ (v : View) (D : Deps) (c e : ℕ) where
  at_place : (i j : ℕ) (h : Bool) → has c e D ≡ h → cond (eqb c i && eqb e j) Used (cond (has i j D) Used (v i j)) ≡ cond (has i j (elim h [ true ↦ D | false ↦ (c, e) ∷ D ])) Used (v i j)
  at_place i j false q = go (eqb c i && eqb e j)
    where
      go : (b : Bool) → cond b Used (cond (has i j D) Used (v i j)) ≡ cond (b || has i j D) Used (v i j)
      go true = refl
      go false = refl
  at_place i j true q = go (eqb c i && eqb e j) refl
    where
      go : (b : Bool) → (eqb c i && eqb e j) ≡ b → cond b Used (cond (has i j D) Used (v i j)) ≡ cond (has i j D) Used (v i j)
      go true r = let p = and_parts (eqb c i) (eqb e j) r in sym (ap (λ h. cond h Used (v i j)) (sym (ap₂ (λ x y. has x y D) (eqb-true c i p.0) (eqb-true e j p.1)) ∙ q))
      go false r = refl

  pub mark_more : c < 240 → e < 240 → with_mark (with_all v D) c e Used ≡ with_all v (more D c e)
  mark_more lc le = same_views _ _ (λ i j. ap (λ b. cond (b && (eqb c i && eqb e j)) Used (with_all v D i j)) (in_square_from c e lc le) ∙ at_place i j (has c e D) refl)

-- ---- one node

-- the dependency of two choices, of which the second goes by the first
abbrev chosen : Option ℕ → (ℕ → Option ℕ) → Option Dependency
chosen o g = elim o [ None ↦ None | Some c ↦ elim (g c) [ None ↦ None | Some e ↦ Some (record { channel = c; on = e }) ] ]

chosen_none : (o : Option ℕ) (g : ℕ → Option ℕ) → None ≡ chosen o g → (o ≡ None) ⊎ ((c : ℕ) × (o ≡ Some c) × (g c ≡ None))
chosen_none None g q = inl refl
chosen_none (Some c) g q = inr (c, refl, last (g c) q)
  where
    last : (p : Option ℕ) → ◌≡◌ {A = Option Dependency} None (elim p [ None ↦ None | Some e ↦ Some (record { channel = c; on = e }) ]) → p ≡ None
    last None z = refl
    last (Some e) z = cc

chosen_some : (o : Option ℕ) (g : ℕ → Option ℕ) (d : Dependency) → Some d ≡ chosen o g → (o ≡ Some d.channel) × (g d.channel ≡ Some d.on)
chosen_some None g d q = cc
chosen_some (Some c) g d q = last (g c) refl q
  where
    last : (p : Option ℕ) → g c ≡ p → ◌≡◌ {A = Option Dependency} (Some d) (elim p [ None ↦ None | Some e ↦ Some (record { channel = c; on = e }) ]) → (Some c ≡ Some d.channel) × (g d.channel ≡ Some d.on)
    last None h z = cc
    last (Some e) h z =
        let is : d ≡ record { channel = c; on = e } = cc in
        (ap (λ x. Some x.channel) (sym is), ap (λ (x : Dependency). g x.channel) is ∙ h ∙ ap (λ x. Some x.on) (sym is))

module _ (w : Topology) (vs : List (Option ℕ)) (n : ℕ) (was : View) where
  node_none : get_or vs n None ≡ None → Adds (dep_of w vs) n was was
  node_none e u D q = q ∙ ap (with_all u) (sym (rw (e, dep_of)))

  node_last : (c : ℕ) → get_or vs n None ≡ Some c → get_or vs (into w c) None ≡ None → Adds (dep_of w vs) n was was
  node_last c e f u D q = q ∙ ap (with_all u) (sym (rw (e, dep_of) (rw f)))

  pub node_stays : None ≡ dependency_at w vs n → Adds (dep_of w vs) n was was
  node_stays q = ⊎_elim node_none (λ p. node_last p.0 p.1 p.2) (chosen_none (get_or vs n None) (λ c. get_or vs (into w c) None) q)

  pub node_gains : (d : Dependency) → Some d ≡ dependency_at w vs n → Known w vs → channels w ≤ 240 → Adds (dep_of w vs) n was (with_mark was d.channel d.on Used)
  node_gains d is K few u D q =
      ap (λ (a : View). with_mark a d.channel d.on Used) q
      ∙ mark_more u D d.channel d.on (omega (arith, here)) (omega (arith, next))
      ∙ ap (with_all u) (sym (joined D))
    where
      parts : (get_or vs n None ≡ Some d.channel) × (get_or vs (into w d.channel) None ≡ Some d.on)
      parts = chosen_some (get_or vs n None) (λ c. get_or vs (into w c) None) d is

      here : d.channel < channels w
      here = (K n d.channel parts.0).0

      next : d.on < channels w
      next = (K (into w d.channel) d.on parts.1).0

      joined : (D : Deps) → dep_of w vs D n ≡ more D d.channel d.on
      joined D = rw (parts.0, dep_of) (rw parts.1)

-- ---- a list of nodes or destinations

fold_append : {S X : Type 0} (f : S → X → S) (s : S) (xs ys : List X) → fold f s (xs ++ ys) ≡ fold f (fold f s xs) ys
fold_append f s [] ys = refl
fold_append f s (x ∷ xs) ys = fold_append f (f s x) xs ys

-- the first i of a list have been added
abbrev pub Added : (Deps → ℕ → Deps) → List ℕ → ℕ → View → View → Type 0
Added f xs i was v = (u : View) (D : Deps) → was ≡ with_all u D → v ≡ with_all u (fold f D (take i xs))

module _ (f : Deps → ℕ → Deps) (xs : List ℕ) (was : View) where
  pub added_none : Added f xs 0 was was
  added_none u D q = q

  pub added_more : (i : ℕ) (v next : View) → i < length xs → Added f xs i was v → Adds f (get_or xs i 0) v next → Added f xs (i + 1) was next
  added_more i v next l h step u D q =
      step u (fold f D (take i xs)) (h u D q)
      ∙ ap (with_all u) (sym (ap (fold f D) (take_more xs i 0 l) ∙ fold_append f D (take i xs) (get_or xs i 0 ∷ [])))

  pub added_all : (i : ℕ) (v : View) → length xs ≤ i → Added f xs i was v → (u : View) (D : Deps) → was ≡ with_all u D → v ≡ with_all u (fold f D xs)
  added_all i v l h u D q = h u D q ∙ ap (λ (ys : List ℕ). with_all u (fold f D ys)) (take_all i xs l)

-- ---- the nodes, by routes in room for 64

abbrev dep_by : Topology → (ℕ → Option ℕ) → Deps → ℕ → Deps
dep_by w g acc n = elim (g n) [ None ↦ acc | Some c ↦ elim (g (into w c)) [ None ↦ acc | Some e ↦ more acc c e ] ]

pub dep_padded : (w : Topology) (vs : List (Option ℕ)) → dep_of w (padded vs) ≡ dep_of w vs
dep_padded w vs = ap (dep_by w) (fun_ext (get_or_padded vs))

pub known_padded : (w : Topology) (vs : List (Option ℕ)) → Known w vs → Known w (padded vs)
known_padded w vs K n c e = K n c (sym (get_or_padded vs n) ∙ e)

-- ---- what is marked where nothing was

module _ (w : Topology) (root : ℕ) (v : Valid w) (ds : List ℕ) where
  pub escape_follows : (c e : ℕ) → has c e (escape_deps w (up_channels w root) ds) ≡ true → Follows w c e
  escape_follows c e h =
      let p = escape_deps_only w (up_channels w root) ds c e h in
      let d = get_or ds p.0 0 in
      let a = escape_known w root v d p.2 c p.4.0 in
      let b = escape_known w root v d (into w c) e p.4.1 in
      (a.0, b.0, b.1)

  used_has : (b : Bool) → cond b Used Unused ≡ Used → b ≡ true
  used_has true q = refl
  used_has false q = let z : ◌≡◌ {A = ℕ} 0 1 = cc in absurd (omega arith)

  module _ (was now : View) (is : now ≡ with_all was (escape_deps w (up_channels w root) ds)) where
    alone : was ≡ no_marks → (c e : ℕ) → now c e ≡ cond (has c e (escape_deps w (up_channels w root) ds)) Used Unused
    alone q c e = ap (λ (x : View). x c e) (is ∙ ap (λ (x : View). with_all x (escape_deps w (up_channels w root) ds)) q)

    pub marked_exactly : MarkedExactly w (up_channels w root) ds was now
    marked_exactly q c e = (
      λ h. escape_deps_only w (up_channels w root) ds c e (used_has _ (sym (alone q c e) ∙ h)),
      λ h. alone q c e ∙ ap (λ b. cond b Used Unused) (escape_deps_has w (up_channels w root) ds c e h),
    )

    pub marked_free : MarkedFree w root ds was now
    marked_free q r all y =
        escape_deps_no_cycle w root v r ds all
        (cycle_map (λ c e. now c e ≡ Used) (λ c e. has c e (escape_deps w (up_channels w root) ds) ≡ true) (λ c e h. used_has _ (sym (alone q c e) ∙ h)) y)
