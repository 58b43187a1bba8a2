-- The dependencies of escape routes: exactly the consecutive pairs of their channels.
use Rattle.std.proofs.Common.{◌≡◌, ℕ, zero, suc, ◌<◌, Bool, true, false, ◌⊎◌, List, [], ◌∷◌, length, get_or, Some, None, Option, sym, refl, ap, ◌∙◌, subst, inl, inr, arith}
use Rattle.std.proofs.lemmas.Bool.{cases_eq, both_ways}
use Rattle.wiring.specs.Lists.{fold}
use Rattle.wiring.specs.Topologies.{Topology, into, all_nodes}
use Rattle.wiring.proofs.TopologyLaws.{none_some, fold_range}
use Rattle.plan_check.specs.Cycles.{Deps, has}
use Rattle.plan_check.proofs.CycleLaws.{has_cases, has_here, has_later}
use Rattle.tree.specs.Escapes.{escape_routes}
use Rattle.tree.specs.Dependencies.{dep_of, deps_to, escape_deps, Next, Consecutive}

-- acc grows to new by the dependency of x on y at most, and has it then
record Grows (x y : ℕ) (acc new : Deps) : Type 0 where
  keeps : (c e : ℕ) → has c e acc ≡ true → has c e new ≡ true
  gains : has x y new ≡ true
  only : (c e : ℕ) → has c e new ≡ true → (has c e acc ≡ true) ⊎ ((x ≡ c) × (y ≡ e))

grown : (x y : ℕ) (acc : Deps) (b : Bool) → has x y acc ≡ b → Grows x y acc (elim b [ true ↦ acc | false ↦ (x, y) ∷ acc ])
grown x y acc true q = record { keeps = λ c e h. h; gains = q; only = λ c e h. inl h }
grown x y acc false q = record {
  keeps = λ c e h. has_later (x, y) acc c e h;
  gains = has_here (x, y) acc x y refl refl;
  only = λ c e h. elim (has_cases (x, y) acc c e h) [ inl p ↦ inr p | inr p ↦ inl p ];
}

-- new has what acc has and the dependencies of which N holds, and no others
record Joins (N : ℕ → ℕ → Type 0) (acc new : Deps) : Type 0 where
  keeps : (c e : ℕ) → has c e acc ≡ true → has c e new ≡ true
  gains : (c e : ℕ) → N c e → has c e new ≡ true
  only : (c e : ℕ) → has c e new ≡ true → (has c e acc ≡ true) ⊎ N c e

dep_next : (w : Topology) (vs : List (Option ℕ)) (acc : Deps) (n x : ℕ) (o : Option ℕ) → get_or vs n None ≡ Some x → get_or vs (into w x) None ≡ o
    → Joins (Next w vs n) acc (elim o [ None ↦ acc | Some y ↦ elim (has x y acc) [ true ↦ acc | false ↦ (x, y) ∷ acc ] ])
dep_next w vs acc n x None p q = record { keeps = λ c e h. h; gains = λ c e h. absurd (nothing c e h); only = λ c e h. inl h }
  where
    nothing : (c e : ℕ) → Next w vs n c e → ⊥
    nothing c e h =
        let s : x ≡ c = let f = h.0 in cc in
        none_some (sym (ap (λ a. get_or vs (into w a) None) s) ∙ q) h.1
dep_next w vs acc n x (Some y) p q = let g = grown x y acc (has x y acc) refl in
    record { keeps = g.keeps; gains = λ c e h. gain g c e h; only = λ c e h. at g c e h }
  where
    new : Deps
    new = elim (has x y acc) [ true ↦ acc | false ↦ (x, y) ∷ acc ]

    gain : Grows x y acc new → (c e : ℕ) → Next w vs n c e → has c e new ≡ true
    gain g c e h =
        let s : x ≡ c = let f = h.0 in cc in
        let z = ap (λ a. get_or vs (into w a) None) s in
        let k = h.1 in
        let r : y ≡ e = cc in
        subst (λ a. has a e new ≡ true) s (subst (λ a. has x a new ≡ true) r g.gains)

    at : Grows x y acc new → (c e : ℕ) → has c e new ≡ true → (has c e acc ≡ true) ⊎ Next w vs n c e
    at g c e h = elim (g.only c e h) [ inl a ↦ inl a | inr a ↦ inr (p ∙ ap Some a.0, ap (λ z. get_or vs (into w z) None) (sym a.0) ∙ q ∙ ap Some a.1) ]

dep_joins : (w : Topology) (vs : List (Option ℕ)) (acc : Deps) (n : ℕ) (o : Option ℕ) → get_or vs n None ≡ o
    → Joins (Next w vs n) acc (elim o [ None ↦ acc | Some c ↦ elim (get_or vs (into w c) None) [ None ↦ acc | Some e ↦ elim (has c e acc) [ true ↦ acc | false ↦ (c, e) ∷ acc ] ] ])
dep_joins w vs acc n None p = record { keeps = λ c e h. h; gains = λ c e h. absurd (nothing c e h); only = λ c e h. inl h }
  where
    nothing : (c e : ℕ) → Next w vs n c e → ⊥
    nothing c e h = none_some p h.0
dep_joins w vs acc n (Some x) p = dep_next w vs acc n x (get_or vs (into w x) None) p refl

joins_on : {N M K : ℕ → ℕ → Type 0} {a b c : Deps} → Joins N a b → Joins M b c
    → ((x y : ℕ) → N x y → K x y) → ((x y : ℕ) → M x y → K x y) → ((x y : ℕ) → K x y → N x y ⊎ M x y) → Joins K a c
joins_on {N} {M} {K} {a} {b} {c} f g left right split = record {
  keeps = λ x y h. g.keeps x y (f.keeps x y h);
  gains = λ x y h. elim (split x y h) [ inl p ↦ g.keeps x y (f.gains x y p) | inr p ↦ g.gains x y p ];
  only = λ x y h. back x y (g.only x y h);
}
  where
    back : (x y : ℕ) → (has x y b ≡ true) ⊎ M x y → (has x y a ≡ true) ⊎ K x y
    back x y (inr p) = inr (right x y p)
    back x y (inl p) = elim (f.only x y p) [ inl q ↦ inl q | inr q ↦ inr (left x y q) ]

abbrev NextBelow : Topology → List (Option ℕ) → ℕ → ℕ → ℕ → Type 0
NextBelow w vs k c e = (n : ℕ) × (n < k) × Next w vs n c e

nodes_join : (w : Topology) (vs : List (Option ℕ)) (acc : Deps) → Joins (NextBelow w vs w.nodes) acc (fold (dep_of w vs) acc (all_nodes w))
nodes_join w vs acc =
    subst (λ k. Joins (NextBelow w vs k) acc (fold (dep_of w vs) acc (all_nodes w))) (omega arith)
    (fold_range (λ j s. Joins (NextBelow w vs j) acc s) (dep_of w vs) 0 w.nodes acc
    (λ j s a b h. joins_on h (dep_joins w vs s j (get_or vs j None) refl) (λ x y p. (p.0, (let l = p.1 in omega arith), p.2)) (λ x y p. (j, omega arith, p)) (λ x y p. split j x y p (cases_eq p.0 j)))
    (record { keeps = λ c e h. h; gains = λ c e h. let l = h.1 in absurd (omega arith); only = λ c e h. inl h }))
  where
    split : (j x y : ℕ) (p : NextBelow w vs (suc j) x y) → (p.0 ≡ j) ⊎ (p.0 ≡ j → ⊥) → NextBelow w vs j x y ⊎ Next w vs j x y
    split j x y p (inl q) = inr (subst (λ a. Next w vs a x y) q p.2)
    split j x y p (inr q) = inl (p.0, (let l = p.1 in omega arith), p.2)

dests_join : (w : Topology) (us : List (Option ℕ)) (ds : List ℕ) (acc : Deps)
    → Joins (Consecutive w us ds) acc (fold (deps_to w us) acc ds)
dests_join w us [] acc = record { keeps = λ c e h. h; gains = λ c e h. let l = h.1 in absurd (omega arith); only = λ c e h. inl h }
dests_join w us (d ∷ ds) acc =
    joins_on (nodes_join w (escape_routes w us d) acc) (dests_join w us ds (fold (dep_of w (escape_routes w us d)) acc (all_nodes w)))
    (λ x y p. (0, omega arith, p.0, p.1, p.2))
    (λ x y p. (suc p.0, (let l = p.1 in omega arith), p.2, p.3, p.4))
    (λ x y p. split x y p.0 p.1 p.2 p.3 p.4)
  where
    split : (x y k : ℕ) → k < suc (length ds) → (n : ℕ) → n < w.nodes → Next w (escape_routes w us (get_or (d ∷ ds) k 0)) n x y
        → NextBelow w (escape_routes w us d) w.nodes x y ⊎ Consecutive w us ds x y
    split x y zero l n h p = inl (n, h, p)
    split x y (suc k) l n h p = inr (k, omega arith, n, h, p)

-- escape_deps has exactly the consecutive pairs of the routes
pub escape_deps_has : (w : Topology) (us : List (Option ℕ)) (ds : List ℕ) (c e : ℕ) → Consecutive w us ds c e → has c e (escape_deps w us ds) ≡ true
escape_deps_has w us ds c e p = (dests_join w us ds []).gains c e p

pub escape_deps_only : (w : Topology) (us : List (Option ℕ)) (ds : List ℕ) (c e : ℕ) → has c e (escape_deps w us ds) ≡ true → Consecutive w us ds c e
escape_deps_only w us ds c e h = at ((dests_join w us ds []).only c e h)
  where
    at : (has c e [] ≡ true) ⊎ Consecutive w us ds c e → Consecutive w us ds c e
    at (inl q) = absurd (both_ways false refl q)
    at (inr q) = q
