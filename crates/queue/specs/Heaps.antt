-- What the queue holds, and what the calls make of it.
use Rattle.std.specs.Prelude.{◌≡◌, ℕ, ◌+◌, List, ◌∷◌, length, take, drop, Some, None, Option, Ok, Err, Result}
use Rattle.std.specs.declared.cmp.Ordering.{Ordering}
use Rattle.std.specs.List.Sorted.{IsPermutation}
use Rattle.queue.specs.declared.entries.Entry.{Entry}
use Rattle.queue.specs.declared.heaps.Heap.{Heap}
use Rattle.queue.specs.declared.heaps.NoRoom.{NoRoom}
use Rattle.queue.specs.Order.{Least}

module _ {K : Type 0} {cost : _} {ord : _} {eq : _} {partial : _} where
  -- what waits
  abbrev pub contents : Heap K cost ord eq partial → List (Entry K)
  contents h = take h.len h.entries.now

  -- how much can wait
  abbrev pub capacity : Heap K cost ord eq partial → ℕ
  capacity h = length h.entries.now

  -- from h to i the memory past what waits stayed
  abbrev pub RestStays : Heap K cost ord eq partial → Heap K cost ord eq partial → Type 0
  RestStays h i = drop i.len i.entries.now ≡ drop i.len h.entries.now

  -- from h to i a push took e in, or there was no room and nothing changed
  abbrev pub Pushed : Result (Unit {0}) NoRoom → Entry K → Heap K cost ord eq partial → Heap K cost ord eq partial → Type 0
  Pushed (Ok _) e h i = (i.len ≡ h.len + 1) × IsPermutation (e ∷ contents h) (contents i) × RestStays h i
  Pushed (Err _) e h i = (i.len ≡ h.len) × (i.entries.now ≡ h.entries.now)

  -- from h to i a pop handed out the least and left the others, or nothing waited and nothing changed
  abbrev pub Popped : (K → K → Ordering) → Option (Entry K) → Heap K cost ord eq partial → Heap K cost ord eq partial → Type 0
  Popped cmp None h i = (h.len ≡ 0) × (i.len ≡ 0) × (i.entries.now ≡ h.entries.now)
  Popped cmp (Some e) h i = (i.len + 1 ≡ h.len) × Least cmp e (contents h) × IsPermutation (e ∷ contents i) (contents h) × RestStays h i
