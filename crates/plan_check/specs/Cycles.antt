-- Dependencies of channels, and cycles of them.
use Rattle.std.specs.Prelude.{ℕ, zero, suc, Bool, true, false, ◌&&◌, ◌||◌, List, [], ◌∷◌, length, ◌==◌}

abbrev pub Linked : (ℕ → ℕ → Type 0) → ℕ → List ℕ → ℕ → Type 0
Linked R c [] z = R c z
Linked R c (x ∷ xs) z = R c x × Linked R x xs z

-- a cycle: a list of one or more channels, each related to the next and the last to the first
abbrev pub Cycle : (ℕ → ℕ → Type 0) → Type 0
Cycle R = (c : ℕ) × (cs : List ℕ) × Linked R c cs c

abbrev pub Deps : Type 0
Deps = List (ℕ × ℕ)

abbrev pub has : ℕ → ℕ → Deps → Bool
has c e [] = false
has c e (p ∷ ps) = (p.0 == c && p.1 == e) || has c e ps

-- some dependency of the list is of c
abbrev pub leaves : ℕ → Deps → Bool
leaves c [] = false
leaves c (p ∷ ps) = p.0 == c || leaves c ps

-- what is left when the dependencies on a channel that depends on nothing are taken away
abbrev pub inner : Deps → Deps → Deps
inner all [] = []
inner all (p ∷ ps) = elim (leaves p.1 all) [ true ↦ p ∷ inner all ps | false ↦ inner all ps ]

abbrev pub peel : ℕ → Deps → Deps
peel zero ps = ps
peel (suc n) [] = []
peel (suc n) (p ∷ ps) = peel n (inner (p ∷ ps) (p ∷ ps))

abbrev pub none_left : Deps → Bool
none_left [] = true
none_left (p ∷ ps) = false

-- true exactly where there is no cycle (a theorem says so)
abbrev pub acyclic : Deps → Bool
acyclic ps = none_left (peel (length ps) ps)
