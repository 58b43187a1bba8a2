-- Ports: a card's own channels, counted upward from 1.
use Rattle.std.specs.Prelude.{ℕ, suc, ◌-◌, cond, List, [], ◌∷◌, Some, None, Option, ◌==◌, slice_index}
use Rattle.wiring.specs.declared.table.Cell.{Cell}
use Rattle.wiring.specs.declared.table.Cell.TheVariants.{Empty, Hop}
use Rattle.cards.specs.declared.ports.PortCell.{PortCell}

-- the port of c, where i channels come before these
abbrev pub port_from : ℕ → List ℕ → ℕ → Option ℕ
port_from i [] c = None
port_from i (x ∷ xs) c = cond (x == c) (Some (suc i)) (port_from (suc i) xs c)

abbrev pub port_of : List ℕ → ℕ → Option ℕ
port_of es c = port_from 0 es c

abbrev pub no_cell : Option PortCell
no_cell = None

-- what a port cell stands for, by the card's own channels
abbrev pub meant_by : List ℕ → Option PortCell → Cell
meant_by es None = Empty
meant_by es (Some kept) = Hop (slice_index es (kept.port - 1)) kept.layer

abbrev pub standing_by : (ℕ → List ℕ) → (ℕ → ℕ → Option PortCell) → ℕ → ℕ → Cell
standing_by own held n d = meant_by (own n) (held n d)
