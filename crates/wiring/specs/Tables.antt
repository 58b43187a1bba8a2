-- Tables of forwarding cells, by their meaning.
use Rattle.std.specs.Prelude.{ℕ}
use Rattle.wiring.specs.declared.table.Cell.{Cell}

-- t d n is the cell of node n for destination d
abbrev pub Table : Type 0
Table = ℕ → ℕ → Cell
