-- Escape routes go up and then down: a rank rises along each, so they arrive and visit no node twice.
use Rattle.std.proofs.Common.{◌≡◌, ℕ, suc, ◌+◌, ◌-◌, ◌<◌, ◌≤◌, cond, ltb, ◌⊎◌, List, [], ◌∷◌, get_or, Some, None, Option, sym, refl, ap, ◌∙◌, subst, inl, inr, arith}
use Rattle.std.specs.List.{AllByRecursion}
use Rattle.std.proofs.lemmas.Bool.{cond-true, cond-false, lt-ltb, le-ltb}
use Rattle.wiring.specs.Topologies.{Topology, partner, from, into}
use Rattle.wiring.proofs.TopologyLaws.{none_some, partner_partner, into_partner}
use Rattle.plan_check.specs.Routes.{visits, Distinct}
use Rattle.tree.specs.Escapes.{escape_routes, Led, there, onward, UpThenDown}
use Rattle.tree.proofs.LedLaws.{leads_by}
use Rattle.tree.proofs.WayLaws.{Tree, Over, Kind, rising, falling, over_nearer, over_up, over_into, over_child, tree_none, tree_kind, tree_some, kind_leaves, kind_reaches}

-- a channel out of level l to a nearer node: 64 - l; any other into level l: 64 + l
abbrev pub rank : (ℕ → ℕ) → Topology → ℕ → ℕ
rank lev w c = cond (ltb (lev (into w c)) (lev (from w c))) (64 - lev (from w c)) (64 + lev (into w c))

abbrev Down : Topology → List (Option ℕ) → ℕ → Type 0
Down w us c = get_or us (into w c) None ≡ Some (partner c)

module _ {w : Topology} {root : ℕ} {us : List (Option ℕ)} {lev : ℕ → ℕ} (t : Tree w root us lev) where
  rank_rising : (n c : ℕ) → get_or us n None ≡ Some c → rank lev w c ≡ 64 - lev n
  rank_rising n c e =
      let a = t.rises n c e in
      let b = ap lev (t.leaves n c e) in
      cond-true (ltb (lev (into w c)) (lev (from w c))) (64 - lev (from w c)) (64 + lev (into w c)) (lt-ltb (lev (into w c)) (lev (from w c)) (omega arith)) ∙ ap (λ x. 64 - x) b

  rank_falling : (d n x : ℕ) → Over w us n x d → rank lev w (partner x) ≡ 64 + suc (lev n)
  rank_falling d n x o =
      let y = partner x in
      let a = t.rises (from w x) x (over_up t o) in
      let b : lev (into w x) ≡ lev n = ap lev (over_into t o) in
      let g : lev (into w y) ≡ lev (from w x) = ap lev (into_partner w x) in
      let k : lev (into w y) ≡ suc (lev n) = omega arith in
      cond-false (ltb (lev (into w y)) (lev (from w y))) (64 - lev (from w y)) (64 + lev (into w y)) (le-ltb (lev (into w y)) (lev (from w y)) (omega arith)) ∙ ap (λ z. 64 + z) k

  -- the rank rises from each channel of a tree route to the next
  pub rank_rises : w.nodes ≤ 64 → (d n c e : ℕ) → d < w.nodes → get_or (escape_routes w us d) n None ≡ Some c → get_or (escape_routes w us d) (into w c) None ≡ Some e → rank lev w c < rank lev w e
  rank_rises few d n c e h p q = at (tree_kind t d n c h p) (tree_kind t d (into w c) e h q)
    where
      after_up : get_or us n None ≡ Some c → Kind w us d (into w c) e → rank lev w c < rank lev w e
      after_up f (rising g off) =
          let a = rank_rising n c f in let b = rank_rising (into w c) e g in
          let l = t.rises n c f in let m = t.small n (t.here n c f) in omega arith
      after_up f (falling {x} o s) =
          let a = rank_rising n c f in let b = ap (rank lev w) s ∙ rank_falling d (into w c) x o in omega arith

      after_down : (x y : ℕ) → Over w us n x d → c ≡ partner x → Over w us (into w c) y d → Kind w us d (into w c) e → rank lev w c < rank lev w e
      after_down x y o s u (rising g off) = absurd (off y u)
      after_down x y o s u (falling {x = z} v r) =
          let a = ap (rank lev w) s ∙ rank_falling d n x o in
          let b = ap (rank lev w) r ∙ rank_falling d (into w c) z v in
          let l = t.rises (from w x) x (over_up t o) in
          let m : lev (into w c) ≡ lev (from w x) = ap lev (ap (into w) s ∙ into_partner w x) in
          let k : lev (into w x) ≡ lev n = ap lev (over_into t o) in
          omega arith

      at : Kind w us d n c → Kind w us d (into w c) e → rank lev w c < rank lev w e
      at (rising f off) k = after_up f k
      at (falling {x} o s) k = child (over_child t o)
        where
          same : into w c ≡ from w x
          same = ap (into w) s ∙ into_partner w x

          child : (from w x ≡ d) ⊎ ((y : ℕ) × Over w us (from w x) y d) → rank lev w c < rank lev w e
          child (inl r) = absurd (none_some (ap (λ a. get_or (escape_routes w us d) a None) (same ∙ r) ∙ tree_none t d h) q)
          child (inr r) = after_down x r.0 o s (subst (λ a. Over w us a r.0 d) (sym same) r.1) k

  pub rank_below : w.nodes ≤ 64 → (d n c : ℕ) → d < w.nodes → get_or (escape_routes w us d) n None ≡ Some c → rank lev w c < 128
  rank_below few d n c h p = at (tree_kind t d n c h p)
    where
      at : Kind w us d n c → rank lev w c < 128
      at (rising f off) = let a = rank_rising n c f in omega arith
      at (falling {x} o s) =
          let a = ap (rank lev w) s ∙ rank_falling d n x o in
          let b = over_nearer t o in
          let m = t.small d h in omega arith

  -- ---- routes

  -- how far a node's channel is from the last in rank
  left_of : Option ℕ → ℕ
  left_of None = 0
  left_of (Some c) = 128 - rank lev w c

  pub tree_leads : w.nodes ≤ 64 → (d n : ℕ) → d < w.nodes → n < w.nodes → (cs : List ℕ) × Led w (escape_routes w us d) d n cs × Distinct (visits w n cs)
  unfolding left_of
  tree_leads few d n h l = let r = leads_by w vs d M each (suc (M n)) n (omega arith) l in (r.0, r.1, r.2)
    where
      vs : List (Option ℕ)
      vs = escape_routes w us d

      M : ℕ → ℕ
      M n = left_of (get_or vs n None)

      falls : (n c : ℕ) → get_or vs n None ≡ Some c → (o : Option ℕ) → get_or vs (into w c) None ≡ o → left_of o < left_of (Some c)
      falls n c e None f = let a = rank_below few d n c h e in omega arith
      falls n c e (Some x) f = let a = rank_below few d n c h e in let b = rank_rises few d n c x h e f in omega arith

      each : (n : ℕ) → n < w.nodes → (n ≡ d → ⊥) → (c : ℕ) × (get_or vs n None ≡ Some c) × (from w c ≡ n) × (into w c < w.nodes) × (M (into w c) < M n)
      each n l ne =
          let p = tree_some t d n h l ne in
          let k = tree_kind t d n p.0 h p.1 in
          (p.0, p.1, kind_leaves t k, kind_reaches t k, subst (λ o. M (into w p.0) < left_of o) (sym p.1) (falls n p.0 p.1 (get_or vs (into w p.0) None) refl))

  downs : (d : ℕ) → d < w.nodes → {n : ℕ} {cs : List ℕ} → Led w (escape_routes w us d) d n cs → (n ≡ d) ⊎ ((x : ℕ) × Over w us n x d) → AllByRecursion (Down w us) cs
  downs d h there q = tt
  downs d h (onward {n} {c} {cs} e f r) (inl q) = absurd (none_some (ap (λ a. get_or (escape_routes w us d) a None) q ∙ tree_none t d h) e)
  downs d h (onward {n} {c} {cs} e f r) (inr p) = at (tree_kind t d n c h e) (downs d h r)
    where
      at : Kind w us d n c → ((into w c ≡ d) ⊎ ((x : ℕ) × Over w us (into w c) x d) → AllByRecursion (Down w us) cs) → AllByRecursion (Down w us) (c ∷ cs)
      at (rising g off) rest = absurd (off p.0 p.1)
      at (falling {x} o s) rest = (ap (λ a. get_or us a None) same ∙ over_up t o ∙ ap Some (sym (partner_partner x) ∙ ap partner (sym s)), rest (next (over_child t o)))
        where
          same : into w c ≡ from w x
          same = ap (into w) s ∙ into_partner w x

          next : (from w x ≡ d) ⊎ ((y : ℕ) × Over w us (from w x) y d) → (into w c ≡ d) ⊎ ((y : ℕ) × Over w us (into w c) y d)
          next (inl r) = inl (same ∙ r)
          next (inr r) = inr (r.0, subst (λ a. Over w us a r.0 d) (sym same) r.1)

  pub tree_up_then_down : (d : ℕ) → d < w.nodes → {n : ℕ} {cs : List ℕ} → Led w (escape_routes w us d) d n cs → UpThenDown w us cs
  tree_up_then_down d h there = record { up = []; down = []; parts = refl; ups_first = tt; downs_last = tt }
  tree_up_then_down d h (onward {n} {c} {cs} e f r) = at (tree_kind t d n c h e) (tree_up_then_down d h r)
    where
      at : Kind w us d n c → UpThenDown w us cs → UpThenDown w us (c ∷ cs)
      at (rising g off) q = record { up = c ∷ q.up; down = q.down; parts = ap (λ x. c ∷ x) q.parts; ups_first = (ap (λ a. get_or us a None) f ∙ g, q.ups_first); downs_last = q.downs_last }
      at (falling {x} o s) q = record { up = []; down = c ∷ cs; parts = refl; ups_first = tt; downs_last = downs d h (onward e f r) (inr (x, o)) }
