-- Lists of channels in room for 64.
use Rattle.std.proofs.Common.{◌≡◌, ℕ, ◌+◌, ◌-◌, ◌<◌, ◌≤◌, ◌⊎◌, List, ◌++◌, length, get_or, set, replicate, None, Option, sym, refl, ap, ◌∙◌, inl, inr, ⊎_elim, arith, length-append}
use Rattle.std.proofs.lemmas.List.{length-set, length-replicate, get_or-replicate, get_or_append_left, get_or-append_right, get_or_past, get_or-set_same, get_or-set_other, set-append_left, set_past, set-get_or, ext_get_or}
use Rattle.std.proofs.lemmas.Bool.{cases_eq, cases_lt}
use Rattle.wiring.specs.Levels.{padded}

pub none_there : (k n : ℕ) → get_or (replicate {A = Option ℕ} k None) n None ≡ None
none_there k n = ⊎_elim (λ l. get_or-replicate k n None None l) (λ l. get_or_past (replicate {A = Option ℕ} k None) n None (omega (arith, length-replicate {A = Option ℕ} k None))) (cases_lt n k)

-- what stands at each place is the same
pub get_or_padded : (ls : List (Option ℕ)) (n : ℕ) → get_or (padded ls) n None ≡ get_or ls n None
get_or_padded ls n =
    ⊎_elim (λ l. get_or_append_left ls _ None n l)
    (λ l. get_or-append_right ls (replicate {A = Option ℕ} (64 - length ls) None) (length ls) n None refl l ∙ none_there (64 - length ls) (n - length ls) ∙ sym (get_or_past ls n None l))
    (cases_lt n (length ls))

pub padded_long : (ls : List (Option ℕ)) → length ls ≤ 64 → length (padded ls) ≡ 64
padded_long ls l = let a = length-append ls (replicate {A = Option ℕ} (64 - length ls) None) in let b = length-replicate {A = Option ℕ} (64 - length ls) None in omega arith

pub padded_is : (xs ls : List (Option ℕ)) → length xs ≡ 64 → length ls ≤ 64 → ((k : ℕ) → k < 64 → get_or xs k None ≡ get_or ls k None) → xs ≡ padded ls
padded_is xs ls long few same = ext_get_or None xs (padded ls) (long ∙ sym (padded_long ls few)) (λ i h. same i (omega arith) ∙ sym (get_or_padded ls i))

pub set_padded : (ls : List (Option ℕ)) (i : ℕ) (x : Option ℕ) → i < length ls → set (padded ls) i x ≡ padded (set ls i x)
set_padded ls i x l =
    set-append_left ls (replicate {A = Option ℕ} (64 - length ls) None) i x l
    ∙ ap (λ k. set ls i x ++ replicate {A = Option ℕ} (64 - k) None) (sym (length-set ls i x))

-- to take one away changes nothing past the end
pub unset_padded : (ls : List (Option ℕ)) (i : ℕ) → set (padded ls) i None ≡ padded (set ls i None)
unset_padded ls i =
    ⊎_elim (λ l. set_padded ls i None l)
    (λ l. ap (λ (x : Option ℕ). set (padded ls) i x) (sym (get_or_padded ls i ∙ get_or_past ls i None l)) ∙ set-get_or (padded ls) i None ∙ ap padded (sym (set_past ls i None l)))
    (cases_lt i (length ls))

-- the first n of a list stand in room for 64
pub record Filled (us : List (Option ℕ)) (n : ℕ) (xs : List (Option ℕ)) : Type 0 where
  pub long : length xs ≡ 64
  pub below : (k : ℕ) → k < n → get_or xs k None ≡ get_or us k None
  pub past : (k : ℕ) → n ≤ k → get_or xs k None ≡ None

pub filled_none : (us : List (Option ℕ)) → Filled us 0 (replicate 64 None)
filled_none us = record { long = length-replicate {A = Option ℕ} 64 None; below = λ k l. absurd (omega arith); past = λ k l. none_there 64 k }

module _ (us : List (Option ℕ)) (n : ℕ) (xs : List (Option ℕ)) (f : Filled us n xs) where
  pub filled_more : (x : Option ℕ) → n < 64 → x ≡ get_or us n None → Filled us (n + 1) (set xs n x)
  filled_more x l e = record {
    long = length-set xs n x ∙ f.long;
    below = λ k h. at k (cases_eq k n) h;
    past = λ k h. get_or-set_other xs n k x None (λ q. omega arith) ∙ f.past k (omega arith);
  }
    where
      at : (k : ℕ) → (k ≡ n) ⊎ (k ≡ n → ⊥) → k < n + 1 → get_or (set xs n x) k None ≡ get_or us k None
      at k (inl q) h = let s = f.long in ap (λ i. get_or (set xs n x) i None) q ∙ get_or-set_same xs n x None (omega arith) ∙ e ∙ ap (λ i. get_or us i None) (sym q)
      at k (inr q) h = get_or-set_other xs n k x None q ∙ f.below k (omega arith)

  pub filled_all : length us ≤ n → length us ≤ 64 → xs ≡ padded us
  filled_all l few = padded_is xs us f.long few (λ k h. ⊎_elim (f.below k) (λ p. f.past k p ∙ sym (get_or_past us k None (omega arith))) (cases_lt k n))
