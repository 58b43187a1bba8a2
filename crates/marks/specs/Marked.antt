-- The marks of dependencies, as a function of two channels.
use Rattle.std.specs.Prelude.{ℕ, ◌+◌, ◌*◌, Bool, true, false, cond, ◌&&◌, List, ◌==◌, nat_lt, slice_index_or}
use Rattle.plan_check.specs.Cycles.{Deps, has}
use Rattle.marks.specs.declared.kinds.Mark.{Mark}
use Rattle.marks.specs.declared.kinds.Mark.TheVariants.{Unused, Used, Blocked}
use Rattle.marks.specs.declared.squares.Marks.{Marks}

abbrev pub View : Type 0
View = ℕ → ℕ → Mark

-- there are at most 240 channels
abbrev pub in_square : ℕ → ℕ → Bool
in_square c e = nat_lt c 240 && nat_lt e 240

abbrev pub mark_in : List Mark → View
mark_in run c e = cond (in_square c e) (slice_index_or run (240 * c + e) Unused) Unused

-- the mark of the dependency of c on e
abbrev pub marked : Marks → View
marked m c e = mark_in m.run.now c e

abbrev pub no_marks : View
no_marks c e = Unused

-- the mark of c on e is changed to x, and no other
abbrev pub with_mark : View → ℕ → ℕ → Mark → View
with_mark v c e x i j = cond (in_square c e && (c == i && e == j)) x (v i j)

abbrev pub is_used : Mark → Bool
is_used Unused = false
is_used Used = true
is_used Blocked = false

-- the dependencies of a list are marked used, and every other mark is as it was
abbrev pub with_all : View → Deps → View
with_all v D c e = cond (has c e D) Used (v c e)
