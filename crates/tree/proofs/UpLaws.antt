-- Laws of up channels: the lowest channel of each node to a node one level nearer to the root.
use Rattle.std.proofs.Common.{◌≡◌, ℕ, zero, suc, ◌+◌, ◌<◌, ◌≤◌, Bool, true, false, eqb, ◌⊎◌, List, [], ◌∷◌, length, get_or, set, replicate, filter, Some, None, Option, sym, refl, ap, ◌∙◌, subst, ap₂, inl, inr, ⊎_elim, arith}
use mathlib.Core.Path.{fun_ext}
use Rattle.std.specs.List.{find}
use Rattle.std.proofs.lemmas.List.{length-map, length-replicate, get_or-map, get_or_past, set_past}
use Rattle.std.proofs.lemmas.Bool.{cases_Bool, cases_eq, cases_lt, and_parts, and_from, eqb-true, eq-eqb, both_ways}
use Rattle.wiring.specs.Lists.{range, first_that}
use Rattle.wiring.specs.Topologies.{Topology, channels, from, into, all_channels, all_nodes, Valid}
use Rattle.wiring.specs.Levels.{levels, padded, spread, level_step, level_round}
use Rattle.wiring.specs.Owned.{own}
use Rattle.tree.specs.Ups.{or_zero, one_below, up_among, nearer, up_channels, Nearer, Up}
use Rattle.wiring.proofs.TopologyLaws.{none_some, inside_of, First, first_that_some, first_found, length_range, get_or_range, into_inside}
use Rattle.tree.specs.Escapes.{Led, there, onward}
use Rattle.wiring.proofs.LevelLaws.{levels_leveled, levels_long, level_of}
use Rattle.plan_check.proofs.SearchedLaws.{fold_keeps}
use Rattle.tree.proofs.FirstLaws.{first_find, first_kept}
use Rattle.tree.proofs.RoomLaws.{none_there, get_or_padded}

-- the level of a node as a number
abbrev pub level : Topology → ℕ → ℕ → ℕ
level w root n = or_zero (get_or (levels w root) n None)

-- c is the up channel of n
pub record Climb (w : Topology) (root n c : ℕ) : Type 0 where
  pub here : n < w.nodes
  pub known : c < channels w
  pub leaves : from w c ≡ n
  pub nearer_by_one : suc (level w root (into w c)) ≡ level w root n
  pub lowest : (e : ℕ) → e < c → from w e ≡ n → suc (level w root (into w e)) ≡ level w root n → ⊥

pub ups_long : (w : Topology) (root : ℕ) → length (up_channels w root) ≡ w.nodes
ups_long w root = length-map (all_nodes w) (λ n. first_that (nearer w (levels w root) n) (all_channels w)) ∙ length_range 0 w.nodes

ups_at : (w : Topology) (root n : ℕ) → n < w.nodes → get_or (up_channels w root) n None ≡ first_that (nearer w (levels w root) n) (all_channels w)
ups_at w root n h =
    let e = length_range 0 w.nodes in
    let f : ℕ → Option ℕ = λ n. first_that (nearer w (levels w root) n) (all_channels w) in
    let q : get_or (range 0 w.nodes) n 0 ≡ n = get_or_range 0 w.nodes n 0 h ∙ omega arith in
    get_or-map f (all_nodes w) n 0 None (omega arith) ∙ ap f q

ups_here : (w : Topology) (root n c : ℕ) → get_or (up_channels w root) n None ≡ Some c → n < w.nodes
ups_here w root n c e = at (cases_lt n (length (up_channels w root)))
  where
    at : (n < length (up_channels w root)) ⊎ (length (up_channels w root) ≤ n) → n < w.nodes
    at (inl a) = let b = ups_long w root in omega arith
    at (inr a) = absurd (none_some (get_or_past (up_channels w root) n None a) e)

pub ups_up : (w : Topology) (root n c : ℕ) → get_or (up_channels w root) n None ≡ Some c → Climb w root n c
ups_up w root n c e = record {
  here = ups_here w root n c e;
  known = let a = f.high in omega arith;
  leaves = eqb-true (from w c) n parts.0;
  nearer_by_one = eqb-true (suc (level w root (into w c))) (level w root n) parts.1;
  lowest = λ x a p q. both_ways (nearer w (levels w root) n x) (f.lowest x (omega arith) a)
      (and_from (eqb (from w x) n) (eqb (suc (level w root (into w x))) (level w root n)) (eq-eqb (from w x) n p) (eq-eqb (suc (level w root (into w x))) (level w root n) q));
}
  where
    f : First (nearer w (levels w root) n) 0 (channels w) c
    f = first_that_some (nearer w (levels w root) n) 0 (channels w) c (sym (ups_at w root n (ups_here w root n c e)) ∙ e)

    parts : (eqb (from w c) n ≡ true) × (eqb (suc (level w root (into w c))) (level w root n) ≡ true)
    parts = and_parts (eqb (from w c) n) (eqb (suc (level w root (into w c))) (level w root n)) f.passes

module _ (w : Topology) (root : ℕ) (v : Valid w) (r : root < w.nodes) where
  pub root_level : level w root root ≡ 0
  root_level = ap or_zero (levels_leveled w root v r).start

  pub level_below : (n : ℕ) → n < w.nodes → level w root n < w.nodes
  level_below n h = let p = level_of w root v r n h in let q = ap or_zero p.1 in let x = p.2 in omega arith

  pub level_is : (n : ℕ) → n < w.nodes → get_or (levels w root) n None ≡ Some (level w root n)
  level_is n h = let p = level_of w root v r n h in p.1 ∙ ap Some (sym (ap or_zero p.1))

  pub others_have_one : (n : ℕ) → n < w.nodes → (n ≡ root → ⊥) → (c : ℕ) × (get_or (up_channels w root) n None ≡ Some c) × Climb w root n c
  others_have_one n h ne = let p = level_of w root v r n h in at p.0 p.1
    where
      at : (l : ℕ) → get_or (levels w root) n None ≡ Some l → (c : ℕ) × (get_or (up_channels w root) n None ≡ Some c) × Climb w root n c
      at zero e = absurd (ne ((levels_leveled w root v r).only n e))
      at (suc l) e =
          let p = (levels_leveled w root v r).prev n l e in
          let a : suc (level w root (into w p.0)) ≡ level w root n = ap (λ o. suc (or_zero o)) p.3 ∙ sym (ap or_zero e) in
          let t = and_from (eqb (from w p.0) n) (eqb (suc (level w root (into w p.0))) (level w root n)) (eq-eqb (from w p.0) n p.2) (eq-eqb (suc (level w root (into w p.0))) (level w root n) a) in
          let k : p.0 < channels w = p.1 in
          let f = first_found (nearer w (levels w root) n) 0 (channels w) p.0 (omega arith) (omega arith) t in
          let g = ups_at w root n h ∙ f.1 in
          (f.0, g, ups_up w root n f.0 g)

  not_root : (n k : ℕ) → level w root n ≡ suc k → n ≡ root → ⊥
  not_root n k e q = let z = root_level in let s = ap (level w root) q in omega arith

  -- up channels lead from n to the root in as many steps as n's level
  pub up_leads : (k n : ℕ) → level w root n ≡ k → n < w.nodes → (cs : List ℕ) × Led w (up_channels w root) root n cs × (length cs ≡ k)
  up_leads zero n e h = at_end (cases_eq n root)
    where
      at_end : (n ≡ root) ⊎ (n ≡ root → ⊥) → (cs : List ℕ) × Led w (up_channels w root) root n cs × (length cs ≡ 0)
      at_end (inl q) = ([], subst (λ x. Led w (up_channels w root) root x []) (sym q) there, refl)
      at_end (inr q) = let u = (others_have_one n h q).2.nearer_by_one in absurd (omega arith)
  up_leads (suc k) n e h =
      let u = others_have_one n h (not_root n k e) in
      let a = u.2.nearer_by_one in
      let p = up_leads k (into w u.0) (omega arith) (into_inside w (inside_of v) u.0 u.2.known) in
      (u.0 ∷ p.0, onward u.1 u.2.leaves p.1, ap suc p.2)

-- ---- the answer, below any root

-- below a root that is no node there are no levels
module _ (w : Topology) (root : ℕ) (past : w.nodes ≤ root) where
  idle : (i : ℕ) (ls : List (Option ℕ)) (c : ℕ) → get_or ls (into w c) None ≡ None → level_step w i ls c ≡ ls
  idle i ls c e = rw (e, spread)

  no_round : (i : ℕ) (ls : List (Option ℕ)) → ls ≡ replicate w.nodes None → level_round w ls i ≡ replicate w.nodes None
  no_round i ls e = fold_keeps (level_step w i) (λ (s : List (Option ℕ)). s ≡ replicate w.nodes None) (λ s c q. idle i s c (ap (λ (xs : List (Option ℕ)). get_or xs (into w c) None) q ∙ none_there w.nodes (into w c)) ∙ q) (all_channels w) ls e

  no_levels : levels w root ≡ replicate w.nodes None
  no_levels =
      fold_keeps (level_round w) (λ (s : List (Option ℕ)). s ≡ replicate w.nodes None) (λ s i q. no_round i s q) (all_nodes w) (set (replicate w.nodes None) root (Some 0))
      (set_past (replicate w.nodes None) root (Some 0) (let a = length-replicate {A = Option ℕ} w.nodes None in omega arith))

  pub no_level : (n : ℕ) → get_or (levels w root) n None ≡ None
  no_level n = ap (λ (xs : List (Option ℕ)). get_or xs n None) no_levels ∙ none_there w.nodes n

module _ (w : Topology) (root : ℕ) (v : Valid w) where
  pub level_most : (n : ℕ) → level w root n ≤ w.nodes
  level_most n = at (cases_lt root w.nodes) (cases_lt n w.nodes)
    where
      at : (root < w.nodes) ⊎ (w.nodes ≤ root) → (n < w.nodes) ⊎ (w.nodes ≤ n) → level w root n ≤ w.nodes
      at (inr p) q = let e = ap or_zero (no_level w root p n) in omega arith
      at (inl r) (inl h) = let l = level_below w root v r n h in omega arith
      at (inl r) (inr h) = let e = ap or_zero (get_or_past (levels w root) n None (let z = levels_long w root v r in omega arith)) in omega arith

  -- what leads one level nearer passes the test
  nearer_passes : (n c : ℕ) → Nearer w root n c → suc (level w root (into w c)) ≡ level w root n
  nearer_passes n c p = ap (λ o. suc (or_zero o)) p.ends_at ∙ sym (ap or_zero p.starts_at)

  climb_nearer : (n c : ℕ) → Climb w root n c → Nearer w root n c
  climb_nearer n c u = at (cases_lt root w.nodes)
    where
      at : (root < w.nodes) ⊎ (w.nodes ≤ root) → Nearer w root n c
      at (inr p) = let e = ap or_zero (no_level w root p n) in let a = u.nearer_by_one in absurd (omega arith)
      at (inl r) = record {
        known = u.known;
        leaves = u.leaves;
        level = level w root (into w c);
        ends_at = level_is w root v r (into w c) (into_inside w (inside_of v) c u.known);
        starts_at = level_is w root v r n u.here ∙ ap Some (sym u.nearer_by_one);
      }

  none_nearer : (n : ℕ) → get_or (up_channels w root) n None ≡ None → (c : ℕ) → Nearer w root n c → ⊥
  none_nearer n e c p =
      let h : n < w.nodes = subst (λ x. x < w.nodes) p.leaves (inside_of v c p.known) in
      let t = and_from (eqb (from w c) n) (eqb (suc (level w root (into w c))) (level w root n)) (eq-eqb (from w c) n p.leaves) (eq-eqb (suc (level w root (into w c))) (level w root n) (nearer_passes n c p)) in
      let k = p.known in
      let f = first_found (nearer w (levels w root) n) 0 (channels w) c (omega arith) (omega arith) t in
      none_some (sym (ups_at w root n h) ∙ e) f.1

  -- the up channel is the lowest to a node one level nearer, and only the root has none
  pub up_lowest : (n : ℕ) (o : Option ℕ) → get_or (up_channels w root) n None ≡ o → Up w root n o
  up_lowest n (Some c) e = let u = ups_up w root n c e in (climb_nearer n c u, λ x l p. u.lowest x l p.leaves (nearer_passes n x p))
  up_lowest n None e = (none_nearer n e, only)
    where
      only : root < w.nodes → n < w.nodes → n ≡ root
      only r h = elim (cases_eq n root) [ inl q ↦ q | inr q ↦ absurd (none_some e (others_have_one w root v r n h q).1) ]

-- ---- the first of a node's own channels

-- the up channel is found among the node's own channels
pub up_own : (w : Topology) (root n : ℕ) → n < w.nodes → get_or (up_channels w root) n None ≡ first_that (λ c. one_below (levels w root) (into w c) n) (own w n)
up_own w root n h = ups_at w root n h ∙ first_kept (λ c. eqb (from w c) n) (λ c. one_below (levels w root) (into w c) n) (all_channels w)

-- levels in room for 64 do as well
up_padded : (w : Topology) (root n : ℕ) → up_among w (padded (levels w root)) n ≡ first_that (λ c. one_below (levels w root) (into w c) n) (own w n)
up_padded w root n =
    let L = levels w root in
    first_find (λ c. one_below (padded L) (into w c) n) (own w n)
    ∙ ap (λ (p : ℕ → Bool). first_that p (own w n)) (fun_ext (λ c. ap₂ (λ (a b : Option ℕ). eqb (suc (or_zero a)) (or_zero b)) (get_or_padded L (into w c)) (get_or_padded L n)))

-- what is no node has no channels
none_start : (w : Topology) (v : Valid w) (n : ℕ) → w.nodes ≤ n → (k a : ℕ) → a + k ≤ channels w → filter (λ c. eqb (from w c) n) (range a k) ≡ []
none_start w v n h zero a l = refl
none_start w v n h (suc k) a l = rw (starts_not a (omega arith)) (none_start w v n h k (suc a) (omega arith))
  where
    starts_not : (c : ℕ) → c < channels w → eqb (from w c) n ≡ false
    starts_not c m = ⊎_elim (λ t. absurd (let e = eqb-true (from w c) n t in let i = inside_of v c m in omega arith)) (λ f. f) (cases_Bool (eqb (from w c) n))

none_own : (w : Topology) (v : Valid w) (n : ℕ) → w.nodes ≤ n → own w n ≡ []
none_own w v n h = none_start w v n h (channels w) 0 (omega arith)

-- the search finds the up channel, and nothing past the nodes
pub up_found : (w : Topology) (root : ℕ) (v : Valid w) (n : ℕ) → up_among w (padded (levels w root)) n ≡ get_or (up_channels w root) n None
up_found w root v n = at (cases_lt n w.nodes)
  where
    at : (n < w.nodes) ⊎ (w.nodes ≤ n) → up_among w (padded (levels w root)) n ≡ get_or (up_channels w root) n None
    at (inl h) = up_padded w root n ∙ sym (up_own w root n h)
    at (inr h) = ap (find (λ c. one_below (padded (levels w root)) (into w c) n)) (none_own w v n h) ∙ sym (get_or_past (up_channels w root) n None (let l = ups_long w root in omega arith))
