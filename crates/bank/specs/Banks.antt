-- The meaning of a bank of switch cards, and of its calls.
use Rattle.std.specs.Prelude.{ℕ, Bool, cond, not, ◌&&◌, Ok, Err, Result, ◌==◌, nat_lt}
use Rattle.fault.specs.declared.faults.Fault.{Fault}
use Rattle.fault.specs.declared.faults.Fault.TheVariants.{NotSeated, NoSuchDestination, GateOpen, NotOwn, NoSuchLayer}
use Rattle.wiring.specs.Lists.{only_if, after}
use Rattle.wiring.specs.Tables.{Table}
use Rattle.wiring.specs.declared.table.Cell.{Cell}
use Rattle.wiring.specs.declared.table.Cell.TheVariants.{Empty, Hop}

-- cell n d is the cell of the card at n for destination d
pub record View : Type 0 where
  pub seated : ℕ → Bool
  pub own : ℕ → ℕ → Bool
  pub gate : ℕ → Bool
  pub cell : ℕ → ℕ → Cell

abbrev pub Done : Type 0
Done = Result (Unit {0}) Fault

-- ---- answers

-- there are 64 numbers
abbrev pub seated_answer : View → ℕ → Bool
seated_answer v n = nat_lt n 64 && v.seated n

abbrev pub own_answer : View → ℕ → ℕ → Bool
own_answer v n c = seated_answer v n && v.own n c

abbrev pub set_answer : View → ℕ → Done
set_answer v n = only_if (seated_answer v n) (NotSeated n) (Ok tt)

abbrev pub gate_answer : View → ℕ → Result Bool Fault
gate_answer v n = only_if (seated_answer v n) (NotSeated n) (Ok (v.gate n))

abbrev pub cell_answer : View → ℕ → ℕ → Result Cell Fault
cell_answer v n d = only_if (seated_answer v n) (NotSeated n) (only_if (nat_lt d 64) (NoSuchDestination d) (Ok (v.cell n d)))

abbrev pub clear_answer : View → ℕ → ℕ → Done
clear_answer v n d = only_if (seated_answer v n) (NotSeated n) (only_if (nat_lt d 64) (NoSuchDestination d) (only_if (not (v.gate n)) (GateOpen n) (Ok tt)))

abbrev pub put_answer : View → ℕ → ℕ → ℕ → ℕ → Done
put_answer v n d c l = after (clear_answer v n d) (λ _. only_if (v.own n c) (NotOwn n) (only_if (nat_lt l 8) (NoSuchLayer l) (Ok tt)))

-- ---- changes

abbrev pub with_gate : View → ℕ → Bool → View
with_gate v n g = record { seated = v.seated; own = v.own; gate = λ m. cond (m == n) g (v.gate m); cell = v.cell }

abbrev pub with_cell : View → ℕ → ℕ → Cell → View
with_cell v n d x = record { seated = v.seated; own = v.own; gate = v.gate; cell = λ m e. cond (m == n && e == d) x (v.cell m e) }

-- a refused call leaves the bank as it was
abbrev pub if_done : Done → View → View → View
if_done (Ok x) new old = new
if_done (Err f) new old = old

abbrev pub set_after : View → ℕ → Bool → View
set_after v n g = if_done (set_answer v n) (with_gate v n g) v

abbrev pub clear_after : View → ℕ → ℕ → View
clear_after v n d = if_done (clear_answer v n d) (with_cell v n d Empty) v

abbrev pub put_after : View → ℕ → ℕ → ℕ → ℕ → View
put_after v n d c l = if_done (put_answer v n d c l) (with_cell v n d (Hop c l)) v

-- ---- the cells standing in the cards, as a table

abbrev pub standing : View → Table
standing v = λ d n. cond (seated_answer v n && nat_lt d 64) (v.cell n d) Empty
