-- What the records of links stand for.
use Rattle.std.specs.Prelude.{ℕ, ◌<◌, List, map, length, slice_index_or}
use Rattle.wiring.specs.declared.links.Link.{Link}
use Rattle.wiring.specs.Topologies.{Topology}

abbrev pub ends_of : Link → ℕ × ℕ
ends_of l = (l.first, l.second)

-- loads begin at 1
abbrev pub fresh : ℕ × ℕ → Link
fresh e = record { first = e.0; second = e.1; forth = 1; back = 1 }

-- what is read past the last link
abbrev pub no_link : Link
no_link = record { first = 0; second = 0; forth = 0; back = 0 }

-- the ends are below n
abbrev pub EndsWithin : ℕ → List Link → Type 0
EndsWithin n ls = (j : ℕ) → j < length ls → ((slice_index_or ls j no_link).first < n) × ((slice_index_or ls j no_link).second < n)

-- the meaning of numbers and links
abbrev pub drawn : ℕ → ℕ → List Link → Topology
drawn n k ls = record { nodes = n; layers = k; links = map ends_of ls }
