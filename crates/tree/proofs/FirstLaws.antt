-- The first of a list that passes a test, and the first of those that pass another.
use Rattle.std.proofs.Common.{◌≡◌, Bool, true, false, cond, ◌&&◌, List, [], ◌∷◌, Some, filter, Option, refl, ap}
use Rattle.std.specs.List.{find}
use Rattle.wiring.specs.Lists.{first_that}

pub first_kept : {X : Type 0} (p q : X → Bool) (xs : List X) → first_that (λ x. p x && q x) xs ≡ first_that q (filter p xs)
first_kept p q [] = refl
first_kept {X} p q (x ∷ xs) = at (p x) (first_kept p q xs)
  where
    at : (b : Bool) → first_that (λ x. p x && q x) xs ≡ first_that q (filter p xs)
        → ◌≡◌ {A = Option X} (elim (b && q x) [ true ↦ Some x | false ↦ first_that (λ x. p x && q x) xs ]) (first_that q (cond b (x ∷ filter p xs) (filter p xs)))
    at true ih = ap (λ (o : Option X). elim (q x) [ true ↦ Some x | false ↦ o ]) ih
    at false ih = ih

-- the library's word for it
pub first_find : {X : Type 0} (p : X → Bool) (xs : List X) → find p xs ≡ first_that p xs
first_find p [] = refl
first_find {X} p (x ∷ xs) = at (p x) (first_find p xs)
  where
    at : (b : Bool) → find p xs ≡ first_that p xs → ◌≡◌ {A = Option X} (cond b (Some x) (find p xs)) (elim b [ true ↦ Some x | false ↦ first_that p xs ])
    at true q = refl
    at false q = q
