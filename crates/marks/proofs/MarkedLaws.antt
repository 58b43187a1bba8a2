-- Marks in a run: all unused, and one changed.
use Rattle.std.proofs.Common.{◌≡◌, ℕ, ◌+◌, ◌*◌, ◌<◌, ◌≤◌, Bool, true, false, cond, ◌&&◌, eqb, ltb, ◌⊎◌, List, length, get_or, set, sym, refl, ap, ◌∙◌, inl, inr, arith}
use mathlib.Core.Path.{fun_ext}
use Rattle.std.proofs.lemmas.List.{get_or-set_same, get_or-set_other, set-set, set-get_or}
use Rattle.std.proofs.lemmas.Bool.{lt-ltb, ltb-true, eq-eqb, eqb-true, eqb-false, false≢true, cond-true, and_parts, and_from}
use Rattle.marks.specs.declared.kinds.Mark.{Mark}
use Rattle.marks.specs.declared.kinds.Mark.TheVariants.{Unused, Used, Blocked}
use Rattle.marks.specs.Marked.{View, in_square, mark_in, with_mark, is_used}

pub in_square_from : (c e : ℕ) → c < 240 → e < 240 → in_square c e ≡ true
in_square_from c e lc le = and_from (ltb c 240) (ltb e 240) (lt-ltb c 240 lc) (lt-ltb e 240 le)

pub in_square_parts : (c e : ℕ) → in_square c e ≡ true → (c < 240) × (e < 240)
in_square_parts c e q = let (a, b) = and_parts (ltb c 240) (ltb e 240) q in (ltb-true c 240 a, ltb-true e 240 b)

-- views that agree at every place are one
pub same_views : (v u : View) → ((c e : ℕ) → v c e ≡ u c e) → v ≡ u
same_views v u f = fun_ext (λ c. fun_ext (λ e. f c e))

-- the mark of two channel numbers is the one at their place
pub mark_place : (run : List Mark) (c e : ℕ) → c < 240 → e < 240 → mark_in run c e ≡ get_or run (240 * c + e) Unused
mark_place run c e lc le = cond-true (in_square c e) (get_or run (240 * c + e) Unused) Unused (in_square_from c e lc le)

-- one place of a run is one mark
module _ (run : List Mark) (c e : ℕ) (x : Mark) (lc : c < 240) (le : e < 240) (size : 57600 ≤ length run) where
  at_place : (i j : ℕ) (b : Bool) → in_square i j ≡ b → cond b (get_or (set run (240 * c + e) x) (240 * i + j) Unused) Unused ≡ cond (eqb c i && eqb e j) x (cond b (get_or run (240 * i + j) Unused) Unused)
  at_place i j true q = go (eqb c i) (eqb e j) refl refl
    where
      within : (i < 240) × (j < 240)
      within = in_square_parts i j q

      go : (u v : Bool) → eqb c i ≡ u → eqb e j ≡ v → get_or (set run (240 * c + e) x) (240 * i + j) Unused ≡ cond (u && v) x (get_or run (240 * i + j) Unused)
      go true true y z = ap (λ k. get_or (set run (240 * c + e) x) k Unused) (omega (arith, eqb-true c i y, eqb-true e j z)) ∙ get_or-set_same run (240 * c + e) x Unused (omega arith)
      go true false y z = get_or-set_other run (240 * c + e) (240 * i + j) x Unused (λ k. eqb-false e j z (omega (arith, eqb-true c i y)))
      go false v y z = get_or-set_other run (240 * c + e) (240 * i + j) x Unused (λ k. eqb-false c i y (omega (arith, within.1)))
  at_place i j false q = go (eqb c i) (eqb e j) refl refl
    where
      go : (u v : Bool) → eqb c i ≡ u → eqb e j ≡ v → Unused ≡ cond (u && v) x Unused
      go true true y z = absurd (let p : in_square i j ≡ true = in_square_from i j (omega (arith, eqb-true c i y)) (omega (arith, eqb-true e j z)) in let o : ◌≡◌ {A = Bool} false true = sym q ∙ p in let z : ◌≡◌ {A = ℕ} 0 1 = cc in omega arith)
      go true false y z = refl
      go false v y z = refl

  pub mark_set : mark_in (set run (240 * c + e) x) ≡ with_mark (mark_in run) c e x
  mark_set = same_views _ _ (λ i j. at_place i j (in_square i j) refl ∙ ap (λ b. cond (b && (eqb c i && eqb e j)) x (mark_in run i j)) (sym (in_square_from c e lc le)))

-- an unused place that was marked as used and is put back
pub put_back : (run : List Mark) (k : ℕ) → get_or run k Unused ≡ Unused → set (set run k Used) k Unused ≡ run
put_back run k q = set-set run k Used Unused ∙ ap (set run k) (sym q) ∙ set-get_or run k Unused

-- ---- a mark in a changed view

module _ (v : View) (c e : ℕ) (x : Mark) (inside : in_square c e ≡ true) where
  with_is : (i j : ℕ) → with_mark v c e x i j ≡ cond (eqb c i && eqb e j) x (v i j)
  with_is i j = ap (λ b. cond (b && (eqb c i && eqb e j)) x (v i j)) inside

  pub with_here : with_mark v c e x c e ≡ x
  with_here = with_is c e ∙ ap (λ b. cond b x (v c e)) (and_from (eqb c c) (eqb e e) (eq-eqb c c refl) (eq-eqb e e refl))

  pub with_cases : (i j : ℕ) → ((c ≡ i) × (e ≡ j)) ⊎ (with_mark v c e x i j ≡ v i j)
  with_cases i j = go (eqb c i && eqb e j) refl
    where
      go : (b : Bool) → (eqb c i && eqb e j) ≡ b → ((c ≡ i) × (e ≡ j)) ⊎ (with_mark v c e x i j ≡ v i j)
      go true q = let (y, z) = and_parts (eqb c i) (eqb e j) q in inl (eqb-true c i y, eqb-true e j z)
      go false q = inr (with_is i j ∙ ap (λ b. cond b x (v i j)) q)

pub used_by_test : (x : Mark) → is_used x ≡ true → x ≡ Used
used_by_test Unused q = absurd (false≢true q)
used_by_test Used q = refl
used_by_test Blocked q = absurd (false≢true q)
