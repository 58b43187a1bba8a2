-- What waits, entry by entry: for the calls' users.
use Rattle.std.proofs.Common.{◌≡◌, zero, suc, ◌+◌, ◌<◌, ◌↔◌, true, false, cond, ◌⊎◌, List, [], ◌∷◌, length, is_ok, is_some, IsOk, Ok, Err, Result, Some, None, Option, refl, inl, inr, arith}
use Rattle.std.specs.declared.cmp.Ordering.{Ordering}
use Rattle.std.specs.Cmp.{IsTotalOrder}
use Rattle.std.specs.List.Sorted.{IsPermutation}
use Rattle.std.specs.List.{ContainsAt}
use Rattle.std.proofs.ByRecursion.{all-has, has_get_or, has_append_right, has_shuffled}
use Rattle.std.proofs.lemmas.List.{length-take-le}
use Rattle.std.proofs.lemmas.List.Sorted.{IsPermutation-sym}
use Rattle.std.proofs.lemmas.Bool.{both_ways}
use Rattle.cost.specs.Order.{at_most}
use Rattle.queue.specs.declared.entries.Entry.{Entry}
use Rattle.queue.specs.declared.heaps.Heap.{Heap}
use Rattle.queue.specs.declared.heaps.NoRoom.{NoRoom}
use Rattle.queue.specs.Order.{tie, sooner, Least}
use Rattle.queue.specs.Heaps.{contents, capacity, Pushed, Popped}
use Rattle.queue.proofs.OrderLaws.{not_sooner}

-- e and the rest are what waits: after a push of e, or before e was popped
module _ {X : Type 0} (e : X) (rest waits : List X) (s : IsPermutation (e ∷ rest) waits) where
  pub one_waits : ContainsAt waits e
  one_waits = has_shuffled (e ∷ rest) waits e s (has_get_or (e ∷ rest) 0 e (omega arith))

  pub rest_waits : (y : X) → ContainsAt rest y → ContainsAt waits y
  rest_waits y h = has_shuffled (e ∷ rest) waits y s (has_append_right (e ∷ []) rest y h)

  pub waits_cases : (y : X) → ContainsAt waits y → (e ≡ y) ⊎ ContainsAt rest y
  waits_cases y h = by (has_shuffled waits (e ∷ rest) y (IsPermutation-sym (e ∷ rest) waits s) h)
    where
      by : ContainsAt (e ∷ rest) y → (e ≡ y) ⊎ ContainsAt rest y
      by (zero, l, a) = inl (a e)
      by (suc k, l, a) = inr (k, omega arith, a)

module _ {K : Type 0} {cost : _} {ord : _} {eq : _} {partial : _} where
  -- a push where there is room takes the entry in
  pub push_took : (r : Result (Unit {0}) NoRoom) (e : Entry K) (h i : Heap K cost ord eq partial) → (IsOk r ↔ (h.len < capacity h)) → h.len < capacity h → Pushed r e h i → Pushed (Ok tt) e h i
  push_took (Ok _) e h i room more p = p
  push_took (Err _) e h i room more p = absurd (both_ways false refl (room.1 more))

  pub push_len : (r : Result (Unit {0}) NoRoom) (e : Entry K) (h i : Heap K cost ord eq partial) → Pushed r e h i → i.len ≡ h.len + cond (is_ok r) 1 0
  push_len (Ok _) e h i p = p.0
  push_len (Err _) e h i p = omega (arith, p.0)

  pub pop_len : (cmp : K → K → Ordering) (r : Option (Entry K)) (h i : Heap K cost ord eq partial) → Popped cmp r h i → h.len ≡ i.len + cond (is_some r) 1 0
  pop_len cmp None h i p = omega (arith, p.0, p.1)
  pop_len cmp (Some e) h i p = omega (arith, p.0)

  pub length_contents : (h : Heap K cost ord eq partial) → length (contents h) ≡ h.len
  length_contents h = length-take-le h.len h.entries.now h.ordered.within

-- none that waits costs less than the least, and none of the same cost wins the tie
pub least_no_later : {K : Type 0} (cmp : K → K → Ordering) → IsTotalOrder cmp → (e : Entry K) (waits : List (Entry K)) → Least cmp e waits → (y : Entry K) → ContainsAt waits y → (at_most cmp e.cost y.cost ≡ true) × (at_most cmp y.cost e.cost ≡ true → tie y.key e.key ≡ false)
least_no_later cmp order e waits least y h = not_sooner cmp order y e (all-has (λ z. sooner cmp z e ≡ false) waits y least h)
