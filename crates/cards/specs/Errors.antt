-- What the display shows where no bank is made.
use Rattle.std.specs.Prelude.{ℕ, List, codes}
use Rattle.fault.specs.Faults.{shown_fault}
use Rattle.cards.specs.declared.errors.MakeError.{MakeError}
use Rattle.cards.specs.declared.errors.MakeError.TheVariants.{Refused, NoMemory}

abbrev pub shown_error : MakeError → List ℕ
shown_error (Refused f) = shown_fault f
shown_error NoMemory = codes "out of memory"
