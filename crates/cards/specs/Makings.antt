-- Banks as they are made.
use Rattle.std.specs.Prelude.{◌≡◌, ℕ, true, false, List, is_ok, Ok, Err, nat_lt}
use Rattle.bank.specs.Banks.{View}
use Rattle.wiring.specs.declared.table.Cell.TheVariants.{Empty}
use Rattle.wiring.specs.Topologies.{Topology, starts}
use Rattle.sheet.specs.Wirings.{read_wiring}
use Rattle.cards.specs.declared.errors.MakeError.{MakeError}
use Rattle.cards.specs.declared.errors.MakeError.TheVariants.{Refused, NoMemory}

-- a card for each node, with the channels that start there; gates shut, cells empty
abbrev pub made_view : Topology → View
made_view w = record { seated = λ n. nat_lt n w.nodes; own = λ n c. starts w c n; gate = λ n. false; cell = λ n d. Empty }

-- the bank is the one for the wiring in the sheet
abbrev pub MadeFrom : List ℕ → View → Type 0
MadeFrom s v = (w : Topology) × (read_wiring s ≡ Ok w) × (v ≡ made_view w)

-- no bank is made only where the sheet is refused, or for want of memory
abbrev pub NotMade : List ℕ → MakeError → Type 0
NotMade s (Refused f) = read_wiring s ≡ Err f
NotMade s NoMemory = is_ok (read_wiring s) ≡ true
