-- What a try of a dependency answers, and what it leaves.
use Rattle.std.specs.Prelude.{◌≡◌, ℕ, Bool, true, false, cond, ◌&&◌, nat_lt}
use Rattle.wiring.specs.Topologies.{Topology, channels}
use Rattle.plan_check.specs.Cycles.{Cycle}
use Rattle.plan_check.specs.Marks.{Follows}
use Rattle.marks.specs.declared.kinds.Mark.{Mark}
use Rattle.marks.specs.declared.kinds.Mark.TheVariants.{Unused, Used, Blocked}
use Rattle.marks.specs.Marked.{View, with_mark}

-- the dependency of c on e is used
abbrev pub Uses : View → ℕ → ℕ → Type 0
Uses v c e = v c e ≡ Used

-- the used dependencies are of channels on such as start where they end
abbrev pub AllFollow : Topology → View → Type 0
AllFollow w v = (c e : ℕ) → Uses v c e → Follows w c e

-- both are channels of the wiring
abbrev pub known : Topology → ℕ → ℕ → Bool
known w c e = nat_lt c (channels w) && nat_lt e (channels w)

-- the marks after a try of (c, e) with the answer r, by its mark before
abbrev pub after_by : Mark → Bool → View → ℕ → ℕ → View
after_by Unused r v c e = with_mark v c e (cond r Used Blocked)
after_by Used r v c e = v
after_by Blocked r v c e = v

abbrev pub tried_after : Topology → View → ℕ → ℕ → Bool → View
tried_after w v c e r = cond (known w c e) (after_by (v c e) r v c e) v

-- the answer to a try: an unused dependency is refused where it closes a cycle, and taken where no cycle is new
pub record Tried (w : Topology) (v : View) (c e : ℕ) (r : Bool) : Type 0 where
  pub unknown : known w c e ≡ false → r ≡ false
  pub blocked : v c e ≡ Blocked → r ≡ false
  pub used : known w c e ≡ true → v c e ≡ Used → r ≡ true
  pub closed : known w c e ≡ true → v c e ≡ Unused → r ≡ false → Cycle (Uses (with_mark v c e Used))
  pub free : known w c e ≡ true → v c e ≡ Unused → AllFollow w v → r ≡ true → Cycle (Uses (with_mark v c e Used)) → Cycle (Uses v)
