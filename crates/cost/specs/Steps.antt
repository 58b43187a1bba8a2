-- What a step along a channel makes of a cost, and how costs of two numbers compare.
use Rattle.std.specs.Prelude.{ℕ, ◌+◌, min, Bool, true, false, cond, ltb, leb}

-- the greatest u16 and the greatest u32
abbrev pub most_hops : ℕ
most_hops = 65535

abbrev pub most_load : ℕ
most_load = 4294967295

-- x + n, but no more than the greatest
abbrev pub up_to : ℕ → ℕ → ℕ → ℕ
up_to most x n = min (x + n) most

-- (h, x) is at most (i, y): the hops decide, and the loads where the hops are equal
abbrev pub lexed : ℕ → ℕ → ℕ → ℕ → Bool
lexed h x i y = cond (ltb h i) true (cond (ltb i h) false (leb x y))

-- the load that a step of load n from (h, x) comes to: the greatest, once the hops are
abbrev pub loaded : ℕ → ℕ → ℕ → ℕ
loaded h x n = cond (ltb (h + 1) most_hops) (up_to most_load x n) most_load
