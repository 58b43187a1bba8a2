-- Joined cabinets.
use Rattle.std.proofs.Common.{◌≡◌, ℕ, ◌-◌, ◌<◌, ◌≤◌, Bool, true, false, cond, eqb, ltb, ◌&&◌, ◌⊎◌, inl, inr, Ok, sym, refl, ap, subst, rules, arith}
use mathlib.Core.Path.{fun_ext}
use Rattle.std.proofs.lemmas.Bool.{lt-ltb, le-ltb, ltb-true, ltb-false, eq-eqb, ne_eqb, cases_eq, cases_lt}
use Rattle.fault.specs.declared.faults.Fault.TheVariants.{NotSeated}
use Rattle.wiring.specs.Lists.{only_if}
use Rattle.wiring.specs.declared.table.Cell.{Cell}
use Rattle.wiring.specs.declared.table.Cell.TheVariants.{Empty, Hop}
use Rattle.bank.specs.Banks.{View, with_cell, clear_after, put_answer, put_after}
use Rattle.piles.specs.Slots.{lifted}
use Rattle.piles.specs.Cabinets.{joined_view, side_of}
use Rattle.piles.specs.declared.cabinets.Side.TheVariants.{First, Second}
use Rattle.piles.proofs.PlaceLaws.{Is, clear_lifts, put_lifts, changed_both}

pub second_is : (split : ℕ) (a b : View) (n : ℕ) → n < 64 → split ≤ n → Is (joined_view split a b) b n (n - split)
second_is split a b n h l =
    let x = lt-ltb n 64 h in
    let y = le-ltb n split l in
    let z = lt-ltb (n - split) 64 (omega arith) in
    record { seated = rw (x, y, z); own = λ c. rw (x, y); gate = rw (x, y); cell = λ d. rw (x, y) }

-- a cell changed in the second bank is the one changed above
pub second_cell : (split : ℕ) (a b : View) (n d : ℕ) (x : Cell) → n < 64 → split ≤ n → joined_view split a (with_cell b (n - split) d x) ≡ with_cell (joined_view split a b) n d x
second_cell split a b n d x h l = ap (λ c. record { seated = (joined_view split a b).seated; own = (joined_view split a b).own; gate = (joined_view split a b).gate; cell = c }) (fun_ext (λ m. fun_ext (λ e. at m e (cases_lt m 64) (cases_lt m split) (cases_eq m n))))
  where
    at : (m e : ℕ) → (m < 64) ⊎ (64 ≤ m) → (m < split) ⊎ (split ≤ m) → (m ≡ n) ⊎ (m ≡ n → ⊥)
        → cond (ltb m 64) (cond (ltb m split) (a.cell m e) (cond (eqb (m - split) (n - split) && eqb e d) x (b.cell (m - split) e))) Empty ≡ cond (eqb m n && eqb e d) x (cond (ltb m 64) (cond (ltb m split) (a.cell m e) (b.cell (m - split) e)) Empty)
    at m e (inl p) (inl q) s = rw (lt-ltb m 64 p, lt-ltb m split q, ne_eqb m n (λ z. omega arith)) refl
    at m e (inl p) (inr q) (inl s) = rw (lt-ltb m 64 p, le-ltb m split q, eq-eqb m n s, eq-eqb (m - split) (n - split) (omega arith)) refl
    at m e (inl p) (inr q) (inr s) = rw (lt-ltb m 64 p, le-ltb m split q, ne_eqb m n s, ne_eqb (m - split) (n - split) (λ z. s (omega arith))) refl
    at m e (inr p) q s = rw (le-ltb m 64 p, ne_eqb m n (λ z. omega arith)) refl

-- what holds where a node stands in the second bank
pub stands_second : (split n m : ℕ) → Ok (Second m) ≡ side_of split n → (n < 64) × (split ≤ n) × (m ≡ n - split)
stands_second split n m e = at (ltb n 64) (ltb n split) refl refl e
  where
    at : (a b : Bool) → ltb n 64 ≡ a → ltb n split ≡ b → Ok (Second m) ≡ only_if a (NotSeated n) (Ok (cond b (First n) (Second (n - split)))) → (n < 64) × (split ≤ n) × (m ≡ n - split)
    at true true p q e = search rules
    at true false p q e = (ltb-true n 64 p, ltb-false n split q, cc)
    at false b p q e = search rules

-- so a call of the second bank is the call above
module _ (split : ℕ) (a b : View) (n m : ℕ) (e : Ok (Second m) ≡ side_of split n) where
  is : Is (joined_view split a b) b n m
  is = let h = stands_second split n m e in subst (λ k. Is (joined_view split a b) b n k) (sym h.2) (second_is split a b n h.0 h.1)

  cell : (d : ℕ) (x : Cell) → joined_view split a (with_cell b m d x) ≡ with_cell (joined_view split a b) n d x
  cell d x = let h = stands_second split n m e in subst (λ k. joined_view split a (with_cell b k d x) ≡ with_cell (joined_view split a b) n d x) (sym h.2) (second_cell split a b n d x h.0 h.1)

  pub second_clear : (d : ℕ) → joined_view split a (clear_after b m d) ≡ clear_after (joined_view split a b) n d
  second_clear d = changed_both (joined_view split a) n _ _ b (with_cell b m d Empty) _ (clear_lifts (joined_view split a b) b n m is d) (cell d Empty)

  pub second_put_answer : (d c l : ℕ) → lifted n (put_answer b m d c l) ≡ put_answer (joined_view split a b) n d c l
  second_put_answer = put_lifts (joined_view split a b) b n m is

  pub second_put : (d c l : ℕ) → joined_view split a (put_after b m d c l) ≡ put_after (joined_view split a b) n d c l
  second_put d c l = changed_both (joined_view split a) n _ _ b (with_cell b m d (Hop c l)) _ (second_put_answer d c l) (cell d (Hop c l))
