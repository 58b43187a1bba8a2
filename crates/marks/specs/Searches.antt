-- A search along used dependencies: the channels that it has seen, and those that it has still to look at.
use Rattle.std.specs.Prelude.{◌≡◌, ℕ, ◌+◌, ◌-◌, ◌<◌, ◌≤◌, true, false, cond, not, ◌⊎◌, List, Some, None, count_by, Option, ◌==◌, slice_index, slice_index_or}
use Rattle.wiring.specs.Topologies.{Topology, channels, from, into}
use Rattle.plan_check.specs.Cycles.{Linked}
use Rattle.marks.specs.declared.kinds.Mark.TheVariants.{Used}
use Rattle.marks.specs.declared.visits.Visits.{Visits}
use Rattle.marks.specs.Marked.{View, with_mark}

-- c is e, or R leads from c to e
abbrev pub Reach : (ℕ → ℕ → Type 0) → ℕ → ℕ → Type 0
Reach R c e = (c ≡ e) ⊎ ((cs : List ℕ) × Linked R c cs e)

-- x depends on y by a used dependency, and y is a channel of the node where x ends
abbrev pub Next : Topology → View → ℕ → ℕ → Type 0
Next w v x y = (v x y ≡ Used) × (y < channels w) × (from w y ≡ into w x)

-- with the dependency of c on e used too, used dependencies lead from e back to c
abbrev pub Closes : Topology → View → ℕ → ℕ → Type 0
Closes w v c e = Reach (Next w (with_mark v c e Used)) e c

abbrev pub Seen : Visits → ℕ → Type 0
Seen s y = slice_index_or s.seen y false ≡ true

-- how many are not seen
abbrev pub unseen : Visits → ℕ
unseen s = count_by not s.seen

-- x is still to be looked at
abbrev pub Stacked : Visits → ℕ → Type 0
Stacked s x = (j : ℕ) × (j < s.count) × (slice_index s.stack j ≡ x)

abbrev pub last_stacked : Visits → Option ℕ
last_stacked s = cond (s.count == 0) None (Some (slice_index s.stack (s.count - 1)))

-- a search has gone on: what is newly seen has P, and is to be looked at
pub record Grown (P : ℕ → Type 0) (s t : Visits) : Type 0 where
  pub keeps : (y : ℕ) → Seen s y → Seen t y
  pub below : (j : ℕ) → j < s.count → slice_index t.stack j ≡ slice_index s.stack j
  pub more : s.count ≤ t.count
  pub above : (j : ℕ) → s.count ≤ j → j < t.count → Seen t (slice_index t.stack j)
  pub new : (y : ℕ) → Seen t y → Seen s y ⊎ (P y × Stacked t y)
  pub sum : t.count + unseen t ≡ s.count + unseen s

-- what is known between two turns of a search from e along R
pub record Known (R : ℕ → ℕ → Type 0) (e : ℕ) (s : Visits) : Type 0 where
  pub start : Seen s e
  pub led : (y : ℕ) → Seen s y → Reach R e y
  pub stacked : (j : ℕ) → j < s.count → Seen s (slice_index s.stack j)
  pub closed : (x y : ℕ) → Seen s x → R x y → Seen s y ⊎ Stacked s x
