-- The bank that cards and their store stand for.
use Rattle.std.specs.Prelude.{ℕ, Bool, false, List, nat_lt, slice_index_or}
use Rattle.bank.specs.Banks.{View}
use Rattle.wiring.specs.declared.table.Cell.{Cell}

abbrev pub cards_view : ℕ → List Bool → (ℕ → ℕ → Bool) → (ℕ → ℕ → Cell) → View
cards_view nodes gates owned held = record { seated = λ n. nat_lt n nodes; own = owned; gate = λ n. slice_index_or gates n false; cell = held }
