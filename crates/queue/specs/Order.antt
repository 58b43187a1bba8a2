-- The order in which entries leave the queue, and how they lie in memory until then.
use Rattle.std.specs.Prelude.{◌≡◌, ℕ, ◌≤◌, Bool, true, false, cond, List, length, take, nat_lt}
use Rattle.std.specs.declared.cmp.Ordering.{Ordering}
use Rattle.std.specs.declared.cmp.Ordering.TheVariants.{Less, Equal, Greater}
use Rattle.std.specs.Ordering.{match_ordering, on, then_cmp, flip_args}
use Rattle.std.specs.List.{AllByRecursion}
use Rattle.std.specs.BinaryHeap.{IsHeap, IsHeap-prop}
use Rattle.std.specs.Coded.{le_prop}
use Rattle.queue.specs.declared.entries.Entry.{Entry}

-- which of two keys comes first where the costs are equal: the lower
abbrev pub tie : ℕ → ℕ → Bool
tie a b = nat_lt a b

-- how the tie compares two keys
abbrev pub by_tie : ℕ → ℕ → Ordering
by_tie a b = cond (tie a b) Less (cond (tie b a) Greater Equal)

module _ {K : Type 0} (cmp : K → K → Ordering) where
  -- a comes sooner than b: it costs less, or the costs are equal and the keys decide
  abbrev pub sooner : Entry K → Entry K → Bool
  sooner a b = match_ordering (cmp a.cost b.cost) true (tie a.key b.key) false

  -- none of the entries comes sooner than e
  abbrev pub Least : Entry K → List (Entry K) → Type 0
  Least e xs = AllByRecursion (λ y. sooner y e ≡ false) xs

  -- the order of entries turned round, since the greatest is on top of a heap of the library
  abbrev pub later : Entry K → Entry K → Ordering
  later = flip_args (then_cmp (on (λ e. e.cost) cmp) (on (λ e. e.key) by_tie))

  -- the first n entries have room, and none of them comes sooner than its parent
  pub record Ordered (xs : List (Entry K)) (n : ℕ) : Type 0 where
    pub within : n ≤ length xs
    pub heaped : IsHeap later (take n xs)

  pub Ordered-prop : (xs : List (Entry K)) (n : ℕ) → IsProp (Ordered xs n)
  Ordered-prop xs n = λ x y i. record { within = le_prop x.within y.within i; heaped = IsHeap-prop later (take n xs) x.heaped y.heaped i }
