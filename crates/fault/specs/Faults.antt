-- Every fault with its number, its place and the part that it belongs to, and what the display shows of it.
use Rattle.std.specs.Prelude.{ℕ, List, ◌∷◌, ◌++◌, decimal, Option, Some, None, Result, Ok, Err}
use Rattle.fault.specs.declared.faults.Part.{Part}
use Rattle.fault.specs.declared.faults.Part.TheVariants.{Sheet, Rack, Check, Card}
use Rattle.fault.specs.declared.faults.Place.{Place}
use Rattle.fault.specs.declared.faults.Place.TheVariants.{One, Two}
use Rattle.fault.specs.declared.faults.Fault.{Fault}
use Rattle.fault.specs.declared.faults.Fault.TheVariants.{Contents, Letter, BodyPlace, BodySize, NodeCount, LayerCount, LinkEnds, Unjoined, PlanSize, NodeCountDiffers, ShortMemory, NoSuchNode, CardMissing, OwnDiffers, WrongPhase, OwnCellFilled, CellEmpty, StartsElsewhere, LayerTooHigh, LayerDiffers, Cycle, NotArrived, NotSeated, NoSuchDestination, GateOpen, NotOwn, NoSuchLayer, BadMap}

pub record Entry : Type 0 where
  pub number : ℕ
  pub place : Place
  pub part : Part

abbrev row : ℕ → Place → Part → Entry
row n p q = record { number = n; place = p; part = q }

abbrev pub entry : Fault → Entry
entry Contents = row 1 (One 0) Sheet
entry (Letter line) = row 2 (One line) Sheet
entry (BodyPlace line) = row 3 (One line) Sheet
entry (BodySize line) = row 4 (One line) Sheet
entry NodeCount = row 5 (One 0) Sheet
entry LayerCount = row 6 (One 0) Sheet
entry (LinkEnds link) = row 7 (One link) Sheet
entry (Unjoined node) = row 8 (One node) Sheet
entry PlanSize = row 9 (One 0) Sheet
entry NodeCountDiffers = row 10 (One 0) Rack
entry (ShortMemory need) = row 11 (One need) Rack
entry (NoSuchNode node) = row 12 (One node) Rack
entry (CardMissing node) = row 13 (One node) Rack
entry (OwnDiffers node channel) = row 14 (Two node channel) Rack
entry WrongPhase = row 15 (One 0) Rack
entry (OwnCellFilled destination node) = row 16 (Two destination node) Check
entry (CellEmpty destination node) = row 17 (Two destination node) Check
entry (StartsElsewhere destination node) = row 18 (Two destination node) Check
entry (LayerTooHigh destination node) = row 19 (Two destination node) Check
entry (LayerDiffers destination node) = row 20 (Two destination node) Check
entry (Cycle layer) = row 21 (One layer) Check
entry (NotArrived destination) = row 22 (One destination) Rack
entry (NotSeated node) = row 23 (One node) Card
entry (NoSuchDestination destination) = row 24 (One destination) Card
entry (GateOpen node) = row 25 (One node) Card
entry (NotOwn node) = row 26 (One node) Card
entry (NoSuchLayer layer) = row 27 (One layer) Card
entry BadMap = row 28 (One 0) Card

-- numbers in decimal, with a space between
abbrev pub shown_place : Place → List ℕ
shown_place (One a) = decimal a
shown_place (Two a b) = decimal a ++ (32 ∷ decimal b)

abbrev pub shown_fault : Fault → List ℕ
shown_fault f = decimal (entry f).number ++ (32 ∷ shown_place (entry f).place)

-- what a test answers by the fault that it finds, or that it finds none
abbrev pub judged : Option Fault → Result (Unit {0}) Fault
judged None = Ok tt
judged (Some f) = Err f
