-- Slot maps, and the bank that stands behind one.
use Rattle.std.specs.Prelude.{◌≡◌, ℕ, ◌<◌, false, cond, List, Ok, Err, Result, ◌==◌, nat_lt, slice_index}
use Rattle.fault.specs.declared.faults.Fault.{Fault}
use Rattle.fault.specs.declared.faults.Fault.TheVariants.{NotSeated, GateOpen, NotOwn}
use Rattle.fault.specs.Faults.{entry}
use Rattle.bank.specs.Banks.{View}
use Rattle.wiring.specs.declared.table.Cell.TheVariants.{Empty}

-- a permutation of 0 to 63: each is below 64, and no two are equal
abbrev pub Small : List ℕ → Type 0
Small xs = (i : ℕ) → i < 64 → slice_index xs i < 64

abbrev pub Apart : List ℕ → Type 0
Apart xs = (i j : ℕ) → (i < 64) × (j < 64) × (slice_index xs i ≡ slice_index xs j) → i ≡ j

-- node n is slot xs n of the bank below; there is nothing past 63
abbrev pub slot_view : List ℕ → View → View
slot_view xs v = record {
  seated = λ n. cond (nat_lt n 64) (v.seated (slice_index xs n)) false;
  own = λ n c. cond (nat_lt n 64) (v.own (slice_index xs n) c) false;
  gate = λ n. cond (nat_lt n 64) (v.gate (slice_index xs n)) false;
  cell = λ n d. cond (nat_lt n 64) (v.cell (slice_index xs n) d) Empty;
}

-- a fault of the bank below, by the number that was put to the top
abbrev pub told_at : Fault → ℕ → Fault
told_at f n = cond ((entry f).number == 23) (NotSeated n) (cond ((entry f).number == 25) (GateOpen n) (cond ((entry f).number == 26) (NotOwn n) f))

-- an answer of the bank below, as the top gives it at number n
abbrev pub lifted : {X : Type 0} → ℕ → Result X Fault → Result X Fault
lifted n (Ok x) = Ok x
lifted n (Err f) = Err (told_at f n)
