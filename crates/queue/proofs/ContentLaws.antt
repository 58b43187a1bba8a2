-- What the queue holds after an entry came in at the end, and after the last took the place of the first.
use Rattle.std.proofs.Common.{◌≡◌, ℕ, ◌+◌, ◌-◌, ◌<◌, ◌≤◌, List, [], ◌∷◌, ◌++◌, length, get_or, take, drop, set, sym, ap, ◌∙◌, subst, ⊎_elim, append_assoc, arith}
use Rattle.std.specs.List.Sorted.{IsPermutation}
use Rattle.std.specs.List.{swap_remove}
use Rattle.std.proofs.lemmas.List.{length-set, length-take-le, get_or_default, set-get_or, take_at, take_more_set, take-append-drop, drop_at, drop-append-le, drop-set-lt}
use Rattle.std.proofs.lemmas.List.Sorted.{IsPermutation-sym, IsPermutation-trans, IsPermutation-cons, IsPermutation-to_front, IsPermutation-swap_remove, length_permutation}
use Rattle.std.proofs.lemmas.Bool.{cases_eq}

-- x comes in after the first n, and the first k, which are n + 1, are moved to run
module _ {X : Type 0} (xs : List X) (n k : ℕ) (x : X) (more : n < length xs) (is : k ≡ n + 1) (run : List X) (moved : IsPermutation (take k (set xs n x)) run) where
  pub push_is : take k (set xs n x) ≡ take n xs ++ x ∷ []
  push_is = ap (λ i. take i (set xs n x)) is ∙ take_more_set xs n x more

  pub push_long : length run ≡ n + 1
  push_long = length_permutation (take k (set xs n x)) run moved ∙ length-take-le k (set xs n x) (omega (arith, length-set xs n x)) ∙ is

  pub push_keeps : IsPermutation (x ∷ take n xs) (take (n + 1) (run ++ drop k (set xs n x))) × (drop (n + 1) (run ++ drop k (set xs n x)) ≡ drop (n + 1) xs)
  push_keeps =
      let at_end : IsPermutation (x ∷ take n xs) (take n xs ++ x ∷ []) = IsPermutation-sym (take n xs ++ x ∷ []) (x ∷ take n xs) (IsPermutation-to_front (take n xs) x) in
      let all : IsPermutation (take n xs ++ x ∷ []) run = subst (λ (l : List X). IsPermutation l run) push_is moved in (
        subst (IsPermutation (x ∷ take n xs)) (sym (take_at run (drop k (set xs n x)) (n + 1) push_long)) (IsPermutation-trans (x ∷ take n xs) (take n xs ++ x ∷ []) run at_end all),
        drop_at run (drop k (set xs n x)) (n + 1) push_long ∙ ap (λ i. drop i (set xs n x)) is ∙ drop-set-lt (n + 1) xs n x (omega arith),
      )

-- of the first k, which are n, the last takes the place of the first, and the first m, all but one, are moved to run
module _ {X : Type 0} (xs : List X) (n k m : ℕ) (first last : X) (within : n ≤ length xs) (is : k ≡ n) (less : m + 1 ≡ n) (first_is : first ≡ get_or (take k xs) 0 first) (last_is : last ≡ get_or (take k xs) (n - 1) last) (run : List X) (moved : IsPermutation (take m (set (take k xs) 0 last)) run) where
  long : length (take n xs) ≡ n
  long = length-take-le n xs within

  pub pop_first : first ≡ get_or (take n xs) 0 first
  pop_first = first_is ∙ ap (λ i. get_or (take i xs) 0 first) is

  pub pop_is : take m (set (take k xs) 0 last) ≡ swap_remove (take n xs) 0 first
  pop_is =
      let count : m ≡ length (take n xs) - 1 = omega (arith, long) in
      let place : n - 1 ≡ length (take n xs) - 1 = omega (arith, long) in
      let taken : last ≡ get_or (take n xs) (length (take n xs) - 1) first =
      last_is ∙ (λ i. get_or (take (is i) xs) (place i) last) ∙ get_or_default (take n xs) (length (take n xs) - 1) last first (omega (arith, long)) in
      λ i. take (count i) (set (take (is i) xs) 0 (taken i))

  pub pop_long : length run ≡ m
  pop_long = length_permutation (take m (set (take k xs) 0 last)) run moved ∙ length-take-le m (set (take k xs) 0 last) (omega (arith, length-set (take k xs) 0 last, ap (λ i. length (take i xs)) is, long))

  -- what stands past the moved ones
  rest : drop m (set (take k xs) 0 last) ++ drop k xs ≡ drop m xs
  rest = ⊎_elim
      (λ (z : m ≡ 0).
      let place : n - 1 ≡ 0 = omega arith in
      ap (λ (l : List X). drop m l ++ drop k xs) (ap (set (take k xs) 0) (last_is ∙ ap (λ i. get_or (take k xs) i last) place) ∙ set-get_or (take k xs) 0 last))
      (λ u. ap (λ (l : List X). l ++ drop k xs) (drop-set-lt m (take k xs) 0 last (omega arith)))
      (cases_eq m 0)
      ∙ sym (drop-append-le m (take k xs) (drop k xs) (omega (arith, ap (λ i. length (take i xs)) is, long)))
      ∙ ap (drop m) (take-append-drop k xs)

  pub pop_keeps : (j : ℕ) → j ≡ m → IsPermutation (first ∷ take j ((run ++ drop m (set (take k xs) 0 last)) ++ drop k xs)) (take n xs) × (drop j ((run ++ drop m (set (take k xs) 0 last)) ++ drop k xs) ≡ drop j xs)
  pop_keeps j e =
      let spare = drop m (set (take k xs) 0 last) in
      let joined : (run ++ spare) ++ drop k xs ≡ run ++ (spare ++ drop k xs) = simp append_assoc in
      let out : IsPermutation (take n xs) (first ∷ swap_remove (take n xs) 0 first) = IsPermutation-swap_remove (take n xs) 0 first (omega (arith, long)) pop_first in
      let others : IsPermutation (swap_remove (take n xs) 0 first) run = subst (λ (l : List X). IsPermutation l run) pop_is moved in
      let all = IsPermutation-trans (take n xs) (first ∷ swap_remove (take n xs) 0 first) (first ∷ run) out (IsPermutation-cons first (swap_remove (take n xs) 0 first) run others) in
      let front : take j ((run ++ spare) ++ drop k xs) ≡ run = ap (take j) joined ∙ take_at run (spare ++ drop k xs) j (pop_long ∙ sym e) in (
        subst (λ (l : List X). IsPermutation (first ∷ l) (take n xs)) (sym front) (IsPermutation-sym (take n xs) (first ∷ run) all),
        ap (drop j) joined ∙ drop_at run (spare ++ drop k xs) j (pop_long ∙ sym e) ∙ rest ∙ ap (λ i. drop i xs) (sym e),
      )
