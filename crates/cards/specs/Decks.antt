-- Cells of cards, and one of them changed.
use Rattle.std.specs.Prelude.{◌≡◌, ℕ, ◌+◌, ◌*◌, Bool, true, cond, ◌&&◌, List, ◌==◌, nat_lt, slice_index_or}
use Rattle.wiring.specs.declared.table.Cell.{Cell}
use Rattle.wiring.specs.declared.table.Cell.TheVariants.{Empty, Hop}
use Rattle.wiring.specs.Topologies.{Topology, starts}

abbrev pub changed : {X : Type 0} → (ℕ → ℕ → X) → ℕ → ℕ → X → ℕ → ℕ → X
changed held n d x = λ m e. cond (m == n && e == d) x (held m e)

-- the cell is empty, or its channel is the card's own
abbrev pub Holds : (ℕ → Bool) → Cell → Type 0
Holds own Empty = Unit {0}
Holds own (Hop c v) = own c ≡ true

-- 64 places for each of 64 cards, card by card; past them stands z
abbrev pub grid : {X : Type 0} → X → List X → ℕ → ℕ → X
grid z xs n d = cond (nat_lt n 64 && nat_lt d 64) (slice_index_or xs (64 * n + d) z) z

abbrev pub entry : List Cell → ℕ → ℕ → Cell
entry = grid Empty

-- a card's own channels are those that start at its node, and every cell is empty
abbrev pub EmptyFor : Topology → (ℕ → ℕ → Bool) → (ℕ → ℕ → Cell) → Type 0
EmptyFor w owned held = (owned ≡ λ n c. starts w c n) × (held ≡ λ n d. Empty)
