-- Trials: which dependencies are used before and after one.
use Rattle.std.proofs.Common.{◌≡◌, ℕ, ◌<◌, ◌≤◌, Bool, true, false, cond, ◌&&◌, ◌||◌, eqb, List, [], ◌∷◌, ◌++◌, sym, refl, ap, ◌∙◌, subst, ⊎_elim, arith}
use Rattle.std.proofs.lemmas.Bool.{and_parts, and_from, or_left, or_right, or_cases, eqb-true, eq-eqb, both_ways, false≢true, cond-true}
use Rattle.wiring.specs.Topologies.{Topology, channels, from, into, all_channels}
use Rattle.plan_check.specs.Cycles.{Deps, has, acyclic}
use Rattle.plan_check.specs.Marks.{Follows}
use Rattle.plan_check.specs.Packets.{In, now', later}
use Rattle.plan_check.proofs.CycleLaws.{acyclic_within}
use Rattle.marks.specs.declared.kinds.Mark.{Mark}
use Rattle.marks.specs.declared.kinds.Mark.TheVariants.{Unused, Used, Blocked}
use Rattle.marks.specs.Marked.{View, in_square, no_marks, with_mark, with_all, is_used}
use Rattle.marks.specs.Trials.{uses, used_from, used_among, used_in, stays_free, allowed_by, allowed, tried_by, after_trial}
use Rattle.marks.proofs.MarkedLaws.{in_square_from, with_here}
use Rattle.marks.proofs.FoldLaws.{on_test, below_in_range, all_at}
use Rattle.wiring.proofs.TopologyLaws.{range_below}

has_join : (a b : ℕ) (D E : Deps) → (has a b D || has a b E) ≡ has a b (D ++ E)
has_join a b [] E = refl
has_join a b (p ∷ D) E = step (eqb p.0 a && eqb p.1 b) (has a b D) (has a b E) (has a b (D ++ E)) (has_join a b D E)
  where
    step : (x y z u : Bool) → (y || z) ≡ u → ((x || y) || z) ≡ (x || u)
    step true y z u e = refl
    step false y z u e = e

module _ (w : Topology) (v : View) where
  from_has : (c e : ℕ) (es : List ℕ) → In e es → uses w v c e ≡ true → has c e (used_from w v c es) ≡ true
  from_has c e [] i u = elim i [ ]
  from_has c e (x ∷ es) now' u = on_test (λ (D : Deps). has c e D ≡ true) (uses w v c e) _ _ (λ _. or_left _ _ (and_from _ _ (eq-eqb c c refl) (eq-eqb e e refl))) (λ f. absurd (both_ways _ f u))
  from_has c e (x ∷ es) (later i) u = on_test (λ (D : Deps). has c e D ≡ true) (uses w v c x) _ _ (λ _. or_right _ _ (from_has c e es i u)) (λ _. from_has c e es i u)

  has_from : (a b c : ℕ) (es : List ℕ) → has a b (used_from w v c es) ≡ true → (a ≡ c) × In b es × (uses w v a b ≡ true)
  has_from a b c [] h = absurd (false≢true h)
  has_from a b c (x ∷ es) h = on_test (λ (D : Deps). has a b D ≡ true → (a ≡ c) × In b (x ∷ es) × (uses w v a b ≡ true)) (uses w v c x) _ _
      (λ u k. ⊎_elim
      (λ q. let p = and_parts (eqb c a) (eqb x b) q in let ca = eqb-true c a p.0 in let xb = eqb-true x b p.1 in (sym ca, subst (λ z. In z (x ∷ es)) xb now', subst (λ z. uses w v z b ≡ true) ca (subst (λ z. uses w v c z ≡ true) xb u)))
      (λ q. on_rest (has_from a b c es q)) (or_cases _ _ k))
      (λ _ k. on_rest (has_from a b c es k)) h
    where
      on_rest : (a ≡ c) × In b es × (uses w v a b ≡ true) → (a ≡ c) × In b (x ∷ es) × (uses w v a b ≡ true)
      on_rest r = (r.0, later r.1, r.2)

  among_has : (c e : ℕ) (es cs : List ℕ) → In c cs → In e es → uses w v c e ≡ true → has c e (used_among w v es cs) ≡ true
  among_has c e es [] i j u = elim i [ ]
  among_has c e es (x ∷ cs) now' j u = sym (has_join c e (used_from w v c es) _) ∙ or_left _ _ (from_has c e es j u)
  among_has c e es (x ∷ cs) (later i) j u = sym (has_join c e (used_from w v x es) _) ∙ or_right _ _ (among_has c e es cs i j u)

  has_among : (a b : ℕ) (es cs : List ℕ) → has a b (used_among w v es cs) ≡ true → In a cs × In b es × (uses w v a b ≡ true)
  has_among a b es [] h = absurd (false≢true h)
  has_among a b es (x ∷ cs) h = ⊎_elim
      (λ q. let r = has_from a b x es q in (subst (λ z. In z (x ∷ cs)) (sym r.0) now', r.1, r.2))
      (λ q. let r = has_among a b es cs q in (later r.0, r.1, r.2))
      (or_cases _ _ (has_join a b (used_from w v x es) (used_among w v es cs) ∙ h))

  -- listed is exactly what is used and follows
  pub used_has : (c e : ℕ) → Follows w c e → is_used (v c e) ≡ true → has c e (used_in w v) ≡ true
  used_has c e f u = among_has c e (all_channels w) (all_channels w) (below_in_range c (channels w) f.0) (below_in_range e (channels w) f.1) (and_from _ _ u (eq-eqb _ _ f.2))

  pub has_used : (c e : ℕ) → has c e (used_in w v) ≡ true → Follows w c e × (is_used (v c e) ≡ true)
  has_used c e h =
      let r = has_among c e (all_channels w) (all_channels w) h in
      let p = and_parts (is_used (v c e)) (eqb (from w e) (into w c)) r.2 in
      ((all_at (λ k. k < channels w) c (all_channels w) (range_below (channels w)) r.0, all_at (λ k. k < channels w) e (all_channels w) (range_below (channels w)) r.1, eqb-true _ _ p.1), p.0)

-- ---- one mark more

-- what was used stays used where one that was not may change
used_stays : (v : View) (c e : ℕ) (x : Mark) (a b : ℕ) → is_used (v c e) ≡ false → is_used (v a b) ≡ true → is_used (with_mark v c e x a b) ≡ true
used_stays v c e x a b f u = go (in_square c e && (eqb c a && eqb e b)) refl
  where
    go : (t : Bool) → (in_square c e && (eqb c a && eqb e b)) ≡ t → is_used (cond t x (v a b)) ≡ true
    go false q = u
    go true q =
        let p = and_parts (eqb c a) (eqb e b) (and_parts (in_square c e) _ q).1 in
        absurd (both_ways _ f (subst (λ z. is_used (v c z) ≡ true) (sym (eqb-true e b p.1)) (subst (λ z. is_used (v z b) ≡ true) (sym (eqb-true c a p.0)) u)))

-- a mark that is not used adds no used dependency
not_more : (v : View) (c e : ℕ) (x : Mark) (a b : ℕ) → is_used x ≡ false → is_used (with_mark v c e x a b) ≡ true → is_used (v a b) ≡ true
not_more v c e x a b f = go (in_square c e && (eqb c a && eqb e b))
  where
    go : (t : Bool) → is_used (cond t x (v a b)) ≡ true → is_used (v a b) ≡ true
    go true u = absurd (both_ways _ f u)
    go false u = u

-- ---- a trial

module _ (w : Topology) (v : View) (c e : ℕ) where
  -- it takes no used dependency away
  pub trial_grows : (a b : ℕ) → has a b (used_in w v) ≡ true → has a b (used_in w (after_trial w v c e)) ≡ true
  trial_grows a b h = let r = has_used w v a b h in used_has w (after_trial w v c e) a b r.0 (stays (v c e) refl r.1)
    where
      stays : (m : Mark) → v c e ≡ m → is_used (v a b) ≡ true → is_used (tried_by w v c e m a b) ≡ true
      stays Unused q u = used_stays v c e _ a b (ap is_used q) u
      stays Used q u = u
      stays Blocked q u = u

  -- it closes no cycle
  pub trial_free : acyclic (used_in w v) ≡ true → acyclic (used_in w (after_trial w v c e)) ≡ true
  trial_free h = go (v c e)
    where
      by : (t : Bool) → stays_free w v c e ≡ t → acyclic (used_in w (with_mark v c e (cond t Used Blocked))) ≡ true
      by true q = q
      by false q = acyclic_within (used_in w (with_mark v c e Blocked)) (used_in w v) (λ a b k. let r = has_used w (with_mark v c e Blocked) a b k in used_has w v a b r.0 (not_more v c e Blocked a b refl r.1)) h

      go : (m : Mark) → acyclic (used_in w (tried_by w v c e m)) ≡ true
      go Unused = by (stays_free w v c e) refl
      go Used = h
      go Blocked = h

  -- what it allows is used after it
  pub trial_used : channels w ≤ 240 → Follows w c e → allowed w v c e ≡ true → has c e (used_in w (after_trial w v c e)) ≡ true
  trial_used few f h = used_has w (after_trial w v c e) c e f (go (v c e) refl h)
    where
      go : (m : Mark) → v c e ≡ m → allowed_by w v c e m ≡ true → is_used (tried_by w v c e m c e) ≡ true
      go Unused q t = ap is_used (with_here v c e (cond (stays_free w v c e) Used Blocked) (let a = f.0 in let b = f.1 in in_square_from c e (omega arith) (omega arith))) ∙ ap (λ b. is_used (cond b Used Blocked)) t
      go Used q t = ap is_used q
      go Blocked q t = absurd (false≢true t)

-- ---- the marks of a list

pub marks_has : (w : Topology) (D : Deps) (c e : ℕ) → Follows w c e → has c e D ≡ true → has c e (used_in w (with_all no_marks D)) ≡ true
marks_has w D c e f h = used_has w (with_all no_marks D) c e f (ap is_used (cond-true (has c e D) Used Unused h))

pub marks_free : (w : Topology) (D : Deps) → acyclic D ≡ true → acyclic (used_in w (with_all no_marks D)) ≡ true
marks_free w D = acyclic_within (used_in w (with_all no_marks D)) D (λ c e h. go c e (has c e D) refl (has_used w (with_all no_marks D) c e h).1)
  where
    go : (c e : ℕ) (t : Bool) → has c e D ≡ t → is_used (cond t Used Unused) ≡ true → has c e D ≡ true
    go c e true q u = q
    go c e false q u = absurd (false≢true u)
