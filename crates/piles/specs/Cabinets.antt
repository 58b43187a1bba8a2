-- Two banks joined into one.
use Rattle.std.specs.Prelude.{ℕ, ◌-◌, false, cond, Ok, Result, nat_lt}
use Rattle.fault.specs.declared.faults.Fault.{Fault}
use Rattle.fault.specs.declared.faults.Fault.TheVariants.{NotSeated}
use Rattle.wiring.specs.Lists.{only_if}
use Rattle.bank.specs.Banks.{View}
use Rattle.wiring.specs.declared.table.Cell.TheVariants.{Empty}
use Rattle.piles.specs.declared.cabinets.Side.{Side}
use Rattle.piles.specs.declared.cabinets.Side.TheVariants.{First, Second}

-- below the split the first bank, from there on the second, and nothing past 63
abbrev pub chosen : {X : Type 0} → ℕ → X → (ℕ → X) → (ℕ → X) → ℕ → X
chosen split z f g n = cond (nat_lt n 64) (cond (nat_lt n split) (f n) (g (n - split))) z

-- where a node stands
abbrev pub side_of : ℕ → ℕ → Result Side Fault
side_of split n = only_if (nat_lt n 64) (NotSeated n) (Ok (cond (nat_lt n split) (First n) (Second (n - split))))

abbrev pub joined_view : ℕ → View → View → View
joined_view split a b = record {
  seated = chosen split false a.seated b.seated;
  own = λ n c. chosen split false (λ m. a.own m c) (λ m. b.own m c) n;
  gate = chosen split false a.gate b.gate;
  cell = λ n d. chosen split Empty (λ m. a.cell m d) (λ m. b.cell m d) n;
}
