-- What the table of own channels stands for.
use Rattle.std.specs.Prelude.{ℕ, ◌+◌, cond, List, [], nat_lt, slice_index}
use Rattle.std.specs.List.{between}
use Rattle.wiring.specs.declared.own.Ports.{Ports}

-- node n's part of what is held, by where the parts begin
abbrev pub part : List ℕ → List ℕ → ℕ → List ℕ
part held begins n = cond (nat_lt n 64) (between (slice_index begins n) (slice_index begins (n + 1)) held) []

-- the channels held for node n
abbrev pub owned : Ports → ℕ → List ℕ
owned p n = part p.channels p.begins n
