-- What each node does on the way to a destination: it goes up, or down where the destination lies below it.
use Rattle.std.proofs.Common.{◌≡◌, ℕ, zero, suc, ◌<◌, ◌≤◌, ◌⊎◌, List, length, get_or, set, Some, None, Option, sym, refl, ap, ◌∙◌, subst, inl, inr, arith}
use Rattle.std.proofs.lemmas.List.{length-set, get_or-set_same, get_or-set_other}
use Rattle.std.proofs.lemmas.Bool.{cases_eq}
use Rattle.wiring.specs.Topologies.{Topology, channels, partner, from, into}
use Rattle.wiring.proofs.TopologyLaws.{none_some, partner_below, into_partner}
use Rattle.tree.specs.Escapes.{descend, escape_routes}

-- a tree: channels up to a root, each one level nearer
pub record Tree (w : Topology) (root : ℕ) (us : List (Option ℕ)) (lev : ℕ → ℕ) : Type 0 where
  pub long : length us ≡ w.nodes
  pub other : (n : ℕ) → n < w.nodes → (n ≡ root → ⊥) → (c : ℕ) × (get_or us n None ≡ Some c)
  pub here : (n c : ℕ) → get_or us n None ≡ Some c → n < w.nodes
  pub known : (n c : ℕ) → get_or us n None ≡ Some c → c < channels w
  pub leaves : (n c : ℕ) → get_or us n None ≡ Some c → from w c ≡ n
  pub rises : (n c : ℕ) → get_or us n None ≡ Some c → suc (lev (into w c)) ≡ lev n
  pub reaches : (n c : ℕ) → get_or us n None ≡ Some c → into w c < w.nodes
  pub small : (n : ℕ) → n < w.nodes → lev n < w.nodes

-- from m the up channels lead through c into n
pub data Over (w : Topology) (us : List (Option ℕ)) (n c : ℕ) : ℕ → Type 0 where
  near : {m : ℕ} → get_or us m None ≡ Some c → into w c ≡ n → Over w us n c m
  far : {m e : ℕ} → get_or us m None ≡ Some e → Over w us n c (into w e) → Over w us n c m

-- what a node n does on the way to d
pub data Way (w : Topology) (us vs : List (Option ℕ)) (d n : ℕ) : Type 0 where
  stays : n ≡ d → get_or vs n None ≡ None → Way w us vs d n
  goes_up : (n ≡ d → ⊥) → ((c : ℕ) → Over w us n c d → ⊥) → get_or vs n None ≡ get_or us n None → Way w us vs d n
  goes_down : {c : ℕ} → Over w us n c d → get_or vs n None ≡ Some (partner c) → Way w us vs d n

-- the channel c of n: an up channel, or the partner of one
pub data Kind (w : Topology) (us : List (Option ℕ)) (d n c : ℕ) : Type 0 where
  rising : get_or us n None ≡ Some c → ((x : ℕ) → Over w us n x d → ⊥) → Kind w us d n c
  falling : {x : ℕ} → Over w us n x d → c ≡ partner x → Kind w us d n c

pub descend_long : (w : Topology) (us : List (Option ℕ)) (k m : ℕ) (vs : List (Option ℕ)) → length (descend w us k m vs) ≡ length vs
descend_long w us zero m vs = refl
descend_long w us (suc k) m vs = at (get_or us m None) (descend_long w us k)
  where
    at : (o : Option ℕ) → ((m : ℕ) (vs : List (Option ℕ)) → length (descend w us k m vs) ≡ length vs)
        → length {A = Option ℕ} (elim o [ None ↦ vs | Some c ↦ descend w us k (into w c) (set vs (into w c) (Some (partner c))) ]) ≡ length vs
    at None rest = refl
    at (Some c) rest = rest (into w c) (set vs (into w c) (Some (partner c))) ∙ length-set vs (into w c) (Some (partner c))

-- ---- any tree

module _ {w : Topology} {root : ℕ} {us : List (Option ℕ)} {lev : ℕ → ℕ} (t : Tree w root us lev) where
  pub over_nearer : {n c m : ℕ} → Over w us n c m → lev n < lev m
  over_nearer {n} {c} {m} (near e q) = let a = t.rises m c e in let b = ap lev q in omega arith
  over_nearer {n} {c} {m} (far {e = x} e o) = let a = t.rises m x e in let b = over_nearer o in omega arith

  pub over_up : {n c m : ℕ} → Over w us n c m → get_or us (from w c) None ≡ Some c
  over_up {n} {c} {m} (near e q) = ap (λ x. get_or us x None) (t.leaves m c e) ∙ e
  over_up (far e o) = over_up o

  pub over_into : {n c m : ℕ} → Over w us n c m → into w c ≡ n
  over_into (near e q) = q
  over_into (far e o) = over_into o

  -- the node before n on the way is m, or lies on the way itself
  pub over_child : {n c m : ℕ} → Over w us n c m → (from w c ≡ m) ⊎ ((e : ℕ) × Over w us (from w c) e m)
  over_child {n} {c} {m} (near e q) = inl (t.leaves m c e)
  over_child {n} {c} {m} (far {e = x} e o) = elim (over_child o) [ inl q ↦ inr (x, near e (sym q)) | inr p ↦ inr (p.0, far e p.1) ]

  pub none_over : {n c m : ℕ} → get_or us m None ≡ None → Over w us n c m → ⊥
  none_over f (near e q) = none_some f e
  none_over f (far e o) = none_some f e

  -- the root lies on the way from every other node
  pub over_root : (k m : ℕ) → lev m ≤ k → m < w.nodes → (m ≡ root → ⊥) → (c : ℕ) × Over w us root c m
  over_root zero m l h ne = let p = t.other m h ne in let a = t.rises m p.0 p.1 in absurd (omega arith)
  over_root (suc k) m l h ne =
      let p = t.other m h ne in
      let a = t.rises m p.0 p.1 in
      on p.0 p.1 (cases_eq (into w p.0) root) (over_root k (into w p.0) (omega arith) (t.reaches m p.0 p.1))
    where
      on : (c : ℕ) → get_or us m None ≡ Some c → (into w c ≡ root) ⊎ (into w c ≡ root → ⊥)
          → ((into w c ≡ root → ⊥) → (e : ℕ) × Over w us root e (into w c)) → (e : ℕ) × Over w us root e m
      on c e (inl q) rest = (c, near e q)
      on c e (inr q) rest = let r = rest q in (r.0, far e r.1)

  -- what descend leaves at n: the way back down to m, or what stood there
  Left : ℕ → ℕ → List (Option ℕ) → List (Option ℕ) → Type 0
  Left n m vs new = ((c : ℕ) × Over w us n c m × (get_or new n None ≡ Some (partner c)))
      ⊎ (((c : ℕ) → Over w us n c m → ⊥) × (get_or new n None ≡ get_or vs n None))

  passed : (n m c : ℕ) (vs new : List (Option ℕ)) → get_or us m None ≡ Some c → length vs ≡ w.nodes
      → Left n (into w c) (set vs (into w c) (Some (partner c))) new → Left n m vs new
  unfolding Left
  passed n m c vs new e l (inl p) = inl (p.0, far e p.1, p.2)
  passed n m c vs new e l (inr p) = at (cases_eq n (into w c))
    where
      at : (n ≡ into w c) ⊎ (n ≡ into w c → ⊥) → ((c : ℕ) × Over w us n c m × (get_or new n None ≡ Some (partner c))) ⊎ (((c : ℕ) → Over w us n c m → ⊥) × (get_or new n None ≡ get_or vs n None))
      at (inl q) =
          let h = t.reaches m c e in
          let g = get_or-set_same vs (into w c) (Some (partner c)) None (omega arith) in
          inl (c, near e (sym q), p.1 ∙ ap (λ x. get_or (set vs (into w c) (Some (partner c))) x None) q ∙ g)
      at (inr q) = inr (no, p.1 ∙ get_or-set_other vs (into w c) n (Some (partner c)) None q)
        where
          no : (x : ℕ) → Over w us n x m → ⊥
          no x (near f s) = let y : x ≡ c = cc in q (sym s ∙ ap (into w) y)
          no x (far {e = z} f o) = let y : z ≡ c = cc in p.0 x (subst (λ a. Over w us n x (into w a)) y o)

  descended : (k n m : ℕ) (vs : List (Option ℕ)) (o : Option ℕ) → get_or us m None ≡ o → length vs ≡ w.nodes
      → ((c : ℕ) → get_or us m None ≡ Some c → Left n (into w c) (set vs (into w c) (Some (partner c))) (descend w us k (into w c) (set vs (into w c) (Some (partner c)))))
      → Left n m vs (elim o [ None ↦ vs | Some c ↦ descend w us k (into w c) (set vs (into w c) (Some (partner c))) ])
  unfolding Left
  descended k n m vs None e z rest = inr ((λ c o. none_over e o), refl)
  descended k n m vs (Some c) e z rest = passed n m c vs (descend w us k (into w c) (set vs (into w c) (Some (partner c)))) e z (rest c e)

  descend_leaves : (k n m : ℕ) (vs : List (Option ℕ)) → lev m ≤ k → length vs ≡ w.nodes → Left n m vs (descend w us k m vs)
  unfolding Left
  descend_leaves zero n m vs l z = inr ((λ c o. let a = over_nearer o in omega arith), refl)
  descend_leaves (suc k) n m vs l z =
      descended k n m vs (get_or us m None) refl z
      (λ c e. let a = t.rises m c e in descend_leaves k n (into w c) (set vs (into w c) (Some (partner c))) (omega arith) (length-set vs (into w c) (Some (partner c)) ∙ z))

  pub tree_way : (d n : ℕ) → d < w.nodes → Way w us (escape_routes w us d) d n
  unfolding Left
  tree_way d n h = at (descend_leaves w.nodes n d (set us d None) (let a = t.small d h in omega arith) (length-set us d None ∙ t.long)) (cases_eq n d)
    where
      at : Left n d (set us d None) (escape_routes w us d) → (n ≡ d) ⊎ (n ≡ d → ⊥) → Way w us (escape_routes w us d) d n
      at (inl p) q = goes_down p.1 p.2
      at (inr p) (inl q) =
          let z = t.long in
          let l : d < length us = omega arith in
          stays q (p.1 ∙ ap (λ x. get_or (set us d None) x None) q ∙ get_or-set_same us d None None l)
      at (inr p) (inr q) = goes_up q p.0 (p.1 ∙ get_or-set_other us d n None None q)

  pub tree_none : (d : ℕ) → d < w.nodes → get_or (escape_routes w us d) d None ≡ None
  tree_none d h = at (tree_way d d h)
    where
      at : Way w us (escape_routes w us d) d d → get_or (escape_routes w us d) d None ≡ None
      at (stays q e) = e
      at (goes_up ne off e) = absurd (ne refl)
      at (goes_down o e) = let a = over_nearer o in absurd (omega arith)

  pub tree_kind : (d n c : ℕ) → d < w.nodes → get_or (escape_routes w us d) n None ≡ Some c → Kind w us d n c
  tree_kind d n c h e = at (tree_way d n h)
    where
      at : Way w us (escape_routes w us d) d n → Kind w us d n c
      at (stays q f) = absurd (none_some f e)
      at (goes_up ne off f) = rising (sym f ∙ e) off
      at (goes_down {c = x} o f) = let y : c ≡ partner x = cc in falling o y

  pub tree_some : (d n : ℕ) → d < w.nodes → n < w.nodes → (n ≡ d → ⊥) → (c : ℕ) × (get_or (escape_routes w us d) n None ≡ Some c)
  tree_some d n h l ne = at (tree_way d n h)
    where
      at : Way w us (escape_routes w us d) d n → (c : ℕ) × (get_or (escape_routes w us d) n None ≡ Some c)
      at (stays q f) = absurd (ne q)
      at (goes_up nd off f) = let p = t.other n l not_root in (p.0, f ∙ p.1)
        where
          not_root : n ≡ root → ⊥
          not_root q =
              let p = over_root (lev d) d (omega arith) h (λ s. ne (q ∙ sym s)) in
              off p.0 (subst (λ x. Over w us x p.0 d) (sym q) p.1)
      at (goes_down {c = x} o f) = (partner x, f)

  pub kind_leaves : {d n c : ℕ} → Kind w us d n c → from w c ≡ n
  kind_leaves {d} {n} {c} (rising e off) = t.leaves n c e
  kind_leaves {d} {n} {c} (falling {x} o q) = ap (from w) q ∙ over_into o

  pub kind_known : {d n c : ℕ} → Kind w us d n c → c < channels w
  kind_known {d} {n} {c} (rising e off) = t.known n c e
  kind_known {d} {n} {c} (falling {x} o q) = subst (λ a. a < channels w) (sym q) (partner_below w x (t.known (from w x) x (over_up o)))

  pub kind_reaches : {d n c : ℕ} → Kind w us d n c → into w c < w.nodes
  kind_reaches {d} {n} {c} (rising e off) = t.reaches n c e
  kind_reaches {d} {n} {c} (falling {x} o q) = subst (λ a. a < w.nodes) (sym (ap (into w) q ∙ into_partner w x)) (t.here (from w x) x (over_up o))
