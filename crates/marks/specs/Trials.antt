-- What a trial of a dependency answers and leaves, as a function of the marks.
use Rattle.std.specs.Prelude.{◌≡◌, ℕ, Bool, true, false, cond, ◌&&◌, List, [], ◌∷◌, ◌++◌, ◌==◌}
use Rattle.wiring.specs.Topologies.{Topology, from, into, all_channels}
use Rattle.plan_check.specs.Cycles.{Deps, acyclic}
use Rattle.marks.specs.declared.kinds.Mark.{Mark}
use Rattle.marks.specs.declared.kinds.Mark.TheVariants.{Unused, Used, Blocked}
use Rattle.marks.specs.Marked.{View, with_mark, is_used}
use Rattle.marks.specs.Tries.{AllFollow}

-- the dependency of c on e is used, and e starts where c ends
abbrev pub uses : Topology → View → ℕ → ℕ → Bool
uses w v c e = is_used (v c e) && from w e == into w c

abbrev pub used_from : Topology → View → ℕ → List ℕ → Deps
used_from w v c [] = []
used_from w v c (e ∷ es) = elim (uses w v c e) [ true ↦ (c, e) ∷ used_from w v c es | false ↦ used_from w v c es ]

abbrev pub used_among : Topology → View → List ℕ → List ℕ → Deps
used_among w v es [] = []
used_among w v es (c ∷ cs) = used_from w v c es ++ used_among w v es cs

-- the used dependencies, listed: of the wiring's channels on those that start where they end
abbrev pub used_in : Topology → View → Deps
used_in w v = used_among w v (all_channels w) (all_channels w)

-- whether the used dependencies have no cycle with that of c on e among them
abbrev pub stays_free : Topology → View → ℕ → ℕ → Bool
stays_free w v c e = acyclic (used_in w (with_mark v c e Used))

-- the answer of a trial: blocked is passed over, used is taken, unused is tried
abbrev pub allowed_by : Topology → View → ℕ → ℕ → Mark → Bool
allowed_by w v c e Unused = stays_free w v c e
allowed_by w v c e Used = true
allowed_by w v c e Blocked = false

abbrev pub allowed : Topology → View → ℕ → ℕ → Bool
allowed w v c e = allowed_by w v c e (v c e)

-- the marks after it: what was unused is used or, if a cycle would close, blocked
abbrev pub tried_by : Topology → View → ℕ → ℕ → Mark → View
tried_by w v c e Unused = with_mark v c e (cond (stays_free w v c e) Used Blocked)
tried_by w v c e Used = v
tried_by w v c e Blocked = v

abbrev pub after_trial : Topology → View → ℕ → ℕ → View
after_trial w v c e = tried_by w v c e (v c e)

-- r and the marks u are those of a trial of c on e
abbrev pub TrialIs : Topology → View → ℕ → ℕ → Bool → View → Type 0
TrialIs w v c e r u = (r ≡ allowed w v c e) × (u ≡ after_trial w v c e)

-- the used dependencies follow the wiring and have no cycle
abbrev pub FreeOfCycles : Topology → View → Type 0
FreeOfCycles w v = AllFollow w v × (acyclic (used_in w v) ≡ true)
