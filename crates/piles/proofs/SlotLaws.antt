-- Slot maps.
use Rattle.std.proofs.Common.{◌≡◌, ℕ, zero, suc, ◌+◌, ◌<◌, ◌≤◌, Bool, true, false, cond, eqb, ltb, ◌&&◌, ◌⊎◌, List, length, get_or, set, replicate, Ok, sym, refl, ap, ◌∙◌, subst, inl, inr, ⊎_elim, arith, below_more}
use Rattle.std.proofs.lemmas.List.{get_or-set_same, get_or-set_other}
use mathlib.Core.Path.{fun_ext}
use Rattle.std.proofs.lemmas.Bool.{lt-ltb, le-ltb, ltb-true, eq-eqb, ne_eqb, cases_eq, cases_lt, both_ways}
use Rattle.fault.specs.declared.faults.Fault.{Fault}
use Rattle.wiring.specs.Lists.{only_if}
use Rattle.wiring.specs.declared.table.Cell.{Cell}
use Rattle.wiring.specs.declared.table.Cell.TheVariants.{Empty, Hop}
use Rattle.bank.specs.Banks.{View, with_cell, clear_after, put_after}
use Rattle.piles.specs.Slots.{Small, Apart, slot_view}
use Rattle.piles.proofs.PlaceLaws.{Is, clear_lifts, put_lifts, changed_both, let_through}

pub slot_is : (xs : List ℕ) (v : View) (n : ℕ) → Small xs → n < 64 → Is (slot_view xs v) v n (get_or xs n 0)
slot_is xs v n small h =
    let a = lt-ltb n 64 h in
    let b = lt-ltb (get_or xs n 0) 64 (small n h) in
    record { seated = rw (a, b); own = λ c. rw a; gate = rw a; cell = λ d. rw a }

-- ---- numbers looked at one by one: each is below 64, new, and marked as seen

pub record Marked (xs : List ℕ) (i : ℕ) (seen : List Bool) : Type 0 where
  pub small : (k : ℕ) → k < i → get_or xs k 0 < 64
  pub seen_all : (k : ℕ) → k < i → get_or seen (get_or xs k 0) false ≡ true
  pub seen_only : (s : ℕ) → get_or seen s false ≡ true → (k : ℕ) × (k < i) × (get_or xs k 0 ≡ s)
  pub apart : (k j : ℕ) → k < i → j < i → get_or xs k 0 ≡ get_or xs j 0 → k ≡ j

module _ (xs : List ℕ) (i : ℕ) (seen : List Bool) (h : Marked xs i seen) where
  -- one that was seen stands twice
  pub twice : i < 64 → i ≤ 64 → get_or seen (get_or xs i 0) false ≡ true → Apart xs → ⊥
  twice l m e ap' = let p = h.seen_only (get_or xs i 0) e in let b = p.1 in let q = ap' p.0 i (omega arith, l, p.2) in omega arith

  pub marked_more : get_or xs i 0 < 64 → get_or xs i 0 < length seen → get_or seen (get_or xs i 0) false ≡ false → Marked xs (i + 1) (set seen (get_or xs i 0) true)
  marked_more l room new = record {
    small = below_more _ _ h.small l;
    seen_all = below_more _ _ (λ k b. keep (get_or xs k 0) (h.seen_all k b)) (get_or-set_same seen (get_or xs i 0) true false room);
    seen_only = λ s e. ⊎_elim (λ (q : s ≡ get_or xs i 0). (i, omega arith, sym q)) (λ (q : s ≡ get_or xs i 0 → ⊥). let p = h.seen_only s (sym (get_or-set_other seen (get_or xs i 0) s true false q) ∙ e) in (p.0, let b = p.1 in omega arith, p.2)) (cases_eq s (get_or xs i 0));
    apart = λ k j a b e. at k j a b e (cases_eq k i) (cases_eq j i);
  }
    where
      keep : (s : ℕ) → get_or seen s false ≡ true → get_or (set seen (get_or xs i 0) true) s false ≡ true
      keep s e = ⊎_elim (λ (q : s ≡ get_or xs i 0). ap (λ z. get_or (set seen (get_or xs i 0) true) z false) q ∙ get_or-set_same seen (get_or xs i 0) true false room) (λ (q : s ≡ get_or xs i 0 → ⊥). get_or-set_other seen (get_or xs i 0) s true false q ∙ e) (cases_eq s (get_or xs i 0))

      fresh : (k : ℕ) → k < i → get_or xs k 0 ≡ get_or xs i 0 → ⊥
      fresh k l e = both_ways (get_or seen (get_or xs i 0) false) new (ap (λ z. get_or seen z false) (sym e) ∙ h.seen_all k l)

      at : (k j : ℕ) → k < i + 1 → j < i + 1 → get_or xs k 0 ≡ get_or xs j 0 → (k ≡ i) ⊎ (k ≡ i → ⊥) → (j ≡ i) ⊎ (j ≡ i → ⊥) → k ≡ j
      at k j a b e (inl p) (inl q) = omega arith
      at k j a b e (inl p) (inr q) = absurd (fresh j (omega arith) (sym e ∙ ap (λ z. get_or xs z 0) p))
      at k j a b e (inr p) (inl q) = absurd (fresh k (omega arith) (e ∙ ap (λ z. get_or xs z 0) q))
      at k j a b e (inr p) (inr q) = h.apart k j (omega arith) (omega arith) e

all_false : (k i : ℕ) → get_or (replicate k false) i false ≡ false
all_false zero i = refl
all_false (suc k) zero = refl
all_false (suc k) (suc i) = all_false k i

pub marked_none : (xs : List ℕ) (k : ℕ) → Marked xs 0 (replicate k false)
marked_none xs k = record {
  small = λ k l. absurd (omega arith);
  seen_all = λ k l. absurd (omega arith);
  seen_only = λ s e. absurd (both_ways _ (all_false k s) e);
  apart = λ k j l. absurd (omega arith);
}

pub marked_all : (xs : List ℕ) (i : ℕ) (seen : List Bool) → 64 ≤ i → Marked xs i seen → Small xs × Apart xs
marked_all xs i seen l h = ((λ k b. h.small k (omega arith)), λ k j p. h.apart k j (let a = p.0 in omega arith) (let b = p.1 in omega arith) p.2)

-- a cell changed below is the one changed above
pub slot_cell : (xs : List ℕ) (v : View) (n d : ℕ) (x : Cell) → Apart xs → n < 64 → slot_view xs (with_cell v (get_or xs n 0) d x) ≡ with_cell (slot_view xs v) n d x
slot_cell xs v n d x apart h = ap (λ c. record { seated = (slot_view xs v).seated; own = (slot_view xs v).own; gate = (slot_view xs v).gate; cell = c }) (fun_ext (λ m. fun_ext (λ e. at m e (cases_lt m 64) (cases_eq m n))))
  where
    at : (m e : ℕ) → (m < 64) ⊎ (64 ≤ m) → (m ≡ n) ⊎ (m ≡ n → ⊥) → cond (ltb m 64) (cond (eqb (get_or xs m 0) (get_or xs n 0) && eqb e d) x (v.cell (get_or xs m 0) e)) Empty ≡ cond (eqb m n && eqb e d) x (cond (ltb m 64) (v.cell (get_or xs m 0) e) Empty)
    at m e (inl l) (inl q) = rw (lt-ltb m 64 l, eq-eqb m n q, eq-eqb (get_or xs m 0) (get_or xs n 0) (ap (λ i. get_or xs i 0) q)) refl
    at m e (inl l) (inr q) = rw (lt-ltb m 64 l, ne_eqb m n q, ne_eqb (get_or xs m 0) (get_or xs n 0) (λ s. q (apart m n (l, h, s)))) refl
    at m e (inr l) q = rw (le-ltb m 64 l, ne_eqb m n (λ s. omega arith)) refl

-- so a call below is the call above
module _ (xs : List ℕ) (v : View) (n m : ℕ) (small : Small xs) (apart : Apart xs) (f : Fault) (e : Ok m ≡ only_if (ltb n 64) f (Ok (get_or xs n 0))) where
  low : n < 64
  low = ltb-true n 64 (let_through _ f _ _ e).0

  is : Is (slot_view xs v) v n m
  is = subst (λ k. Is (slot_view xs v) v n k) (sym (let_through _ f _ _ e).1) (slot_is xs v n small low)

  cell : (d : ℕ) (x : Cell) → slot_view xs (with_cell v m d x) ≡ with_cell (slot_view xs v) n d x
  cell d x = subst (λ k. slot_view xs (with_cell v k d x) ≡ with_cell (slot_view xs v) n d x) (sym (let_through _ f _ _ e).1) (slot_cell xs v n d x apart low)

  pub slot_clear : (d : ℕ) → slot_view xs (clear_after v m d) ≡ clear_after (slot_view xs v) n d
  slot_clear d = changed_both (slot_view xs) n _ _ v (with_cell v m d Empty) _ (clear_lifts (slot_view xs v) v n m is d) (cell d Empty)

  pub slot_put : (d c l : ℕ) → slot_view xs (put_after v m d c l) ≡ put_after (slot_view xs v) n d c l
  slot_put d c l = changed_both (slot_view xs) n _ _ v (with_cell v m d (Hop c l)) _ (put_lifts (slot_view xs v) v n m is d c l) (cell d (Hop c l))
