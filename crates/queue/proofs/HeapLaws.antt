-- The queue stays in order: by the library's laws of heaps.
use Rattle.std.proofs.Common.{◌≡◌, ℕ, ◌+◌, ◌-◌, ◌<◌, Bool, false, List, [], ◌∷◌, ◌++◌, length, get_or, take, drop, set, sym, ap, ◌∙◌, subst, append_assoc, arith}
use Rattle.std.specs.declared.cmp.Ordering.{Ordering}
use Rattle.std.specs.Cmp.{IsTotalOrder}
use Rattle.std.specs.List.{AllByRecursion}
use Rattle.std.specs.List.Sorted.{IsPermutation}
use Rattle.std.specs.BinaryHeap.{IsHeap, lt_by_cmp}
use Rattle.std.specs.BinaryHeap.Sift.{RestoresHeap, SiftsDown, SiftsUp}
use Rattle.std.specs.Slice.Heapsort.{IsHeapWithin}
use Rattle.std.proofs.HeapSift.{empty, pushed, popped}
use Rattle.std.proofs.lemmas.List.{length-append, length-take-le, take_at}
use Rattle.std.proofs.lemmas.List.Sorted.{length_permutation}
use Rattle.queue.specs.declared.entries.Entry.{Entry}
use Rattle.queue.specs.Order.{later, Least, Ordered}
use Rattle.queue.proofs.OrderLaws.{later_is, later_total}
use Rattle.queue.proofs.ContentLaws.{push_is, push_long, pop_first, pop_is, pop_long}

module _ {K : Type 0} (cmp : K → K → Ordering) where
  -- what was moved is a heap at the front of the memory
  at_front : (run rest : List (Entry K)) (n : ℕ) → length run ≡ n → IsHeap (later cmp) run → Ordered cmp (run ++ rest) n
  at_front run rest n long h = record { within = omega (arith, length-append run rest); heaped = subst (IsHeap (later cmp)) (sym (take_at run rest n long)) h }

  module _ (order : IsTotalOrder cmp) where
    pub none_ordered : (xs : List (Entry K)) (n : ℕ) → n ≡ 0 → Ordered cmp xs n
    none_ordered xs n e = record { within = omega arith; heaped = empty (later_total cmp order) (take n xs) (ap (λ i. take i xs) e) }

    pub push_ordered : (xs : List (Entry K)) (n k : ℕ) (x : Entry K) (more : n < length xs) (is : k ≡ n + 1) (run : List (Entry K)) → IsPermutation (take k (set xs n x)) run → SiftsUp (later cmp) (take k (set xs n x)) (length (take k (set xs n x)) - 1) run → Ordered cmp xs n → Ordered cmp (run ++ drop k (set xs n x)) (n + 1)
    push_ordered xs n k x more is run moved rises was =
        let long = push_long xs n k x more is run moved in
        let now = push_is xs n k x more is run moved in
        let last : length (take k (set xs n x)) - 1 ≡ length (take n xs) = omega (arith, ap length now, length-append (take n xs) (x ∷ [])) in
        at_front run (drop k (set xs n x)) (n + 1) long
        (pushed (later cmp) (later_total cmp order) (take n xs) (x ∷ []) (take k (set xs n x)) run (length (take k (set xs n x)) - 1) last now (omega (arith, length-take-le n xs)) rises was.heaped)

    -- of the first k, which are n, the last takes the place of the first, and the first m, all but one, are moved to run
    module _ (xs : List (Entry K)) (n k m : ℕ) (first last : Entry K) (is : k ≡ n) (less : m + 1 ≡ n) (first_is : first ≡ get_or (take k xs) 0 first) (last_is : last ≡ get_or (take k xs) (n - 1) last) (run : List (Entry K)) (moved : IsPermutation (take m (set (take k xs) 0 last)) run) (sinks : SiftsDown (later cmp) (take m (set (take k xs) 0 last)) 0 (length (take m (set (take k xs) 0 last))) run) (was : Ordered cmp xs n) where
      mends : (j : ℕ) → j ≡ length run → j ≡ length (take m (set (take k xs) 0 last)) → RestoresHeap (later cmp) (take m (set (take k xs) 0 last)) 1 j run
      unfolding RestoresHeap SiftsDown IsHeap
      mends j e f = λ h. subst (IsHeapWithin (lt_by_cmp (later cmp)) run 0) (sym f ∙ e) (sinks.1 (subst (IsHeapWithin (lt_by_cmp (later cmp)) (take m (set (take k xs) 0 last)) 1) f h))

      pops : IsHeap (later cmp) run × AllByRecursion (λ y. lt_by_cmp (later cmp) first y ≡ false) (take n xs)
      pops =
          let long = pop_long xs n k m first last was.within is less first_is last_is run moved in
          popped (later cmp) (later_total cmp order) (take n xs) (take m (set (take k xs) 0 last)) run first m (omega (arith, length-take-le n xs was.within)) (pop_first xs n k m first last was.within is less first_is last_is run moved)
          (pop_is xs n k m first last was.within is less first_is last_is run moved) (mends m (sym long) (sym long ∙ length_permutation (take m (set (take k xs) 0 last)) run moved)) was.heaped

      pub pop_least : Least cmp first (take n xs)
      pop_least = subst (λ (f : Entry K → Bool). AllByRecursion (λ y. f y ≡ false) (take n xs)) (λ i y. later_is cmp first y i) pops.1

      pub pop_ordered : (j : ℕ) → j ≡ m → Ordered cmp ((run ++ drop m (set (take k xs) 0 last)) ++ drop k xs) j
      pop_ordered j e =
          let spare = drop m (set (take k xs) 0 last) in
          let joined : run ++ (spare ++ drop k xs) ≡ (run ++ spare) ++ drop k xs = simp append_assoc in
          subst (λ (l : List (Entry K)). Ordered cmp l j) joined (at_front run (spare ++ drop k xs) j (pop_long xs n k m first last was.within is less first_is last_is run moved ∙ sym e) pops.0)
