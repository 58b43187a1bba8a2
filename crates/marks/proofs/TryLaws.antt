-- A try of a dependency: the cycles of used dependencies, and the trial of the definition.
use Rattle.std.proofs.Common.{◌≡◌, ℕ, ◌<◌, ◌≤◌, Bool, true, false, cond, ltb, [], ◌∷◌, sym, refl, ap, ◌∙◌, subst, inl, inr, ⊎_elim, arith}
use Rattle.std.proofs.lemmas.Bool.{cases_Bool, both_ways, lt-ltb, and_from}
use Rattle.wiring.specs.Topologies.{Topology, channels}
use Rattle.plan_check.specs.Cycles.{Cycle, acyclic}
use Rattle.plan_check.specs.Marks.{Follows}
use Rattle.plan_check.proofs.CycleLaws.{Has, Leads, has_here, has_later, linked_map, cycle_map, cycle_one_more, acyclic_no_cycle, acyclic_if_no_cycle}
use Rattle.marks.specs.declared.kinds.Mark.{Mark}
use Rattle.marks.specs.declared.kinds.Mark.TheVariants.{Unused, Used, Blocked}
use Rattle.marks.specs.Marked.{View, in_square, with_mark, is_used}
use Rattle.marks.specs.Trials.{used_in, stays_free, allowed_by, tried_by, after_trial, TrialIs, FreeOfCycles}
use Rattle.marks.specs.Tries.{Uses, AllFollow, known, after_by, tried_after, Tried}
use Rattle.marks.specs.Searches.{Reach, Next}
use Rattle.marks.proofs.MarkedLaws.{in_square_from, with_here, with_cases, used_by_test}
use Rattle.marks.proofs.TrialLaws.{used_has, has_used, trial_free}

-- ---- used dependencies, listed

module _ (w : Topology) (v : View) where
  pub uses_listed : AllFollow w v → (c e : ℕ) → Uses v c e → Has (used_in w v) c e
  uses_listed f c e h = used_has w v c e (f c e h) (ap is_used h)

  pub listed_uses : (c e : ℕ) → Has (used_in w v) c e → Uses v c e
  listed_uses c e h = used_by_test (v c e) (has_used w v c e h).1

-- ---- what the search says of cycles

-- a used dependency of c on e, and a way from e to c
pub cycle_closes : (w : Topology) (v : View) (c e : ℕ) → Uses v c e → Reach (Next w v) e c → Cycle (Uses v)
cycle_closes w v c e h (inl q) = (c, [], subst (λ (y : ℕ). Uses v c y) q h)
cycle_closes w v c e h (inr l) = (c, e ∷ l.0, (h, linked_map (Next w v) (Uses v) (λ x y n. n.0) e l.0 c l.1))

-- no way from e to c: a cycle with the one of c on e was one before
module _ (w : Topology) (v : View) (c e : ℕ) (inside : in_square c e ≡ true) (f : AllFollow w v) where
  abbrev after : View
  after = with_mark v c e Used

  has_more : (i j : ℕ) → Uses after i j → Has ((c, e) ∷ used_in w v) i j
  has_more i j h = ⊎_elim (λ q. has_here (c, e) (used_in w v) i j q.0 q.1) (λ q. has_later (c, e) (used_in w v) i j (uses_listed w v f i j (sym q ∙ h))) (with_cases v c e Used inside i j)

  still_used : (i j : ℕ) → Uses v i j → Uses after i j
  still_used i j h = ⊎_elim (λ q. subst (λ (y : ℕ). Uses after i y) q.1 (subst (λ (x : ℕ). Uses after x e) q.0 (with_here v c e Used inside))) (λ q. q ∙ h) (with_cases v c e Used inside i j)

  has_next : (i j : ℕ) → Has (used_in w v) i j → Next w after i j
  has_next i j h = let u = listed_uses w v i j h in let k = f i j u in (still_used i j u, k.1, k.2)

  leads_reach : Leads (used_in w v) e c → Reach (Next w after) e c
  leads_reach (inl q) = inl q
  leads_reach (inr l) = inr (l.0, linked_map (Has (used_in w v)) (Next w after) has_next e l.0 c l.1)

  pub cycle_stood : (Reach (Next w after) e c → ⊥) → Cycle (Uses after) → Cycle (Uses v)
  cycle_stood none y =
      ⊎_elim (cycle_map (Has (used_in w v)) (Uses v) (listed_uses w v)) (λ l. absurd (none (leads_reach l)))
      (cycle_one_more (used_in w v) c e (cycle_map (Uses after) (Has ((c, e) ∷ used_in w v)) has_more y))

-- ---- the answer to a try

pub known_from : (w : Topology) (c e : ℕ) → c < channels w → e < channels w → known w c e ≡ true
known_from w c e lc le = and_from (ltb c (channels w)) (ltb e (channels w)) (lt-ltb c (channels w) lc) (lt-ltb e (channels w) le)

module _ (w : Topology) (v : View) (c e : ℕ) (r : Bool) where
  pub after_is : (x : Mark) → known w c e ≡ true → v c e ≡ x → tried_after w v c e r ≡ after_by x r v c e
  after_is x k q = ap (λ b. cond b (after_by (v c e) r v c e) v) k ∙ ap (λ y. after_by y r v c e) q

  -- one that was unused
  pub tried_unused : in_square c e ≡ true → known w c e ≡ true → v c e ≡ Unused
      → (r ≡ false → Reach (Next w (with_mark v c e Used)) e c) → (r ≡ true → Reach (Next w (with_mark v c e Used)) e c → ⊥) → Tried w v c e r
  tried_unused inside k q closes frees = record {
    unknown = λ z. absurd (both_ways _ z k);
    blocked = λ z. absurd (let o : ◌≡◌ {A = ℕ} 0 1 = cc in omega arith);
    used = λ _ z. absurd (let o : ◌≡◌ {A = ℕ} 0 1 = cc in omega arith);
    closed = λ _ _ z. cycle_closes w (with_mark v c e Used) c e (with_here v c e Used inside) (closes z);
    free = λ _ _ f z. cycle_stood w v c e inside f (frees z);
  }

-- ---- the trial of the definition

-- with one more that follows, all that are used follow
follows_more : (w : Topology) (v : View) (c e : ℕ) (x : Mark) → in_square c e ≡ true → AllFollow w v → Follows w c e → AllFollow w (with_mark v c e x)
follows_more w v c e x inside f p i j h = ⊎_elim (λ q. subst (λ k. Follows w i k) q.1 (subst (λ k. Follows w k e) q.0 p)) (λ q. f i j (sym q ∙ h)) (with_cases v c e x inside i j)

module _ (w : Topology) (v : View) (c e : ℕ) (few : channels w ≤ 240) (f : AllFollow w v) (p : Follows w c e) where
  inside : in_square c e ≡ true
  inside = let a = p.0 in let b = p.1 in in_square_from c e (omega arith) (omega arith)

  pub trial_follows : AllFollow w (after_trial w v c e)
  trial_follows = go (v c e)
    where
      go : (x : Mark) → AllFollow w (tried_by w v c e x)
      go Unused = follows_more w v c e _ inside f p
      go Used = f
      go Blocked = f

  -- a used dependency more keeps the list free of cycles exactly where no cycle is new
  module _ (free : acyclic (used_in w v) ≡ true) where
    no_cycle : (Cycle (Uses (with_mark v c e Used)) → Cycle (Uses v)) → stays_free w v c e ≡ true
    no_cycle g = acyclic_if_no_cycle (used_in w (with_mark v c e Used)) (λ y. acyclic_no_cycle (used_in w v) free
        (cycle_map (Uses v) (Has (used_in w v)) (uses_listed w v f) (g (cycle_map (Has (used_in w (with_mark v c e Used))) (Uses (with_mark v c e Used)) (listed_uses w (with_mark v c e Used)) y))))

    a_cycle : Cycle (Uses (with_mark v c e Used)) → stays_free w v c e ≡ false
    a_cycle y = ⊎_elim (λ z. absurd (acyclic_no_cycle (used_in w (with_mark v c e Used)) z
        (cycle_map (Uses (with_mark v c e Used)) (Has (used_in w (with_mark v c e Used))) (uses_listed w (with_mark v c e Used) (follows_more w v c e Used inside f p)) y)))
        (λ z. z) (cases_Bool (stays_free w v c e))

    -- the answer and the marks are those of the definition
    pub trial_is : (r : Bool) → Tried w v c e r → TrialIs w v c e r (tried_after w v c e r)
    trial_is r t = go (v c e) refl
      where
        both : known w c e ≡ true
        both = known_from w c e p.0 p.1

        answer : (b : Bool) → r ≡ b → v c e ≡ Unused → r ≡ stays_free w v c e
        answer true q u = q ∙ sym (no_cycle (t.free both u f q))
        answer false q u = q ∙ sym (a_cycle (t.closed both u q))

        by : (x : Mark) → v c e ≡ x → r ≡ allowed_by w v c e x → after_by x r v c e ≡ tried_by w v c e x → TrialIs w v c e r (tried_after w v c e r)
        by x q a m = (a ∙ ap (allowed_by w v c e) (sym q), after_is w v c e r x both q ∙ m ∙ ap (tried_by w v c e) (sym q))

        go : (x : Mark) → v c e ≡ x → TrialIs w v c e r (tried_after w v c e r)
        go Unused q = let a = answer r refl q in by Unused q a (ap (λ b. with_mark v c e (cond b Used Blocked)) a)
        go Used q = by Used q (t.used both q) refl
        go Blocked q = by Blocked q (t.blocked q) refl

-- and they are so again after it
pub trial_of : (w : Topology) (v u : View) (c e : ℕ) (r : Bool) → channels w ≤ 240 → Tried w v c e r → u ≡ tried_after w v c e r → FreeOfCycles w v → Follows w c e → TrialIs w v c e r u
trial_of w v u c e r few t is f p = subst (TrialIs w v c e r) (sym is) (trial_is w v c e few f.0 p f.1 r t)

pub trial_keeps : (w : Topology) (v u : View) (c e : ℕ) (r : Bool) → channels w ≤ 240 → Tried w v c e r → u ≡ tried_after w v c e r → FreeOfCycles w v → Follows w c e → FreeOfCycles w u
trial_keeps w v u c e r few t is f p =
    let q = (trial_of w v u c e r few t is f p).1 in
    subst (FreeOfCycles w) (sym q) (trial_follows w v c e few f.0 p, trial_free w v c e f.1)
