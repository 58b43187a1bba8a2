-- The order of costs, as the laws of steps and their users read it.
use Rattle.std.specs.Prelude.{Bool}
use Rattle.std.specs.declared.cmp.Ordering.{Ordering}
use Rattle.std.specs.Ordering.{is_le}

-- whether x is at most y
abbrev pub at_most : {K : Type 0} → (K → K → Ordering) → K → K → Bool
at_most cmp x y = is_le (cmp x y)
