-- A rule of a table, as a test that is computed at every entry.
use Rattle.std.proofs.Common.{◌≡◌, ℕ, zero, suc, ◌+◌, ◌<◌, Bool, true, ◌&&◌, eqb, ltb, List, [], ◌∷◌, length, get_or, arith}
use Rattle.std.proofs.lemmas.Bool.{and_parts}
use Rattle.wiring.specs.Topologies.{partner}

-- the test passes at every entry, the first of which has the number i
abbrev pub each : (ℕ → ℕ → Bool) → ℕ → List ℕ → Bool
each p i [] = true
each p i (x ∷ xs) = p i x && each p (suc i) xs

from_each : (p : ℕ → ℕ → Bool) (i : ℕ) (xs : List ℕ) → each p i xs ≡ true → (k j : ℕ) → k < length xs → i + k ≡ j → p j (get_or xs k 0) ≡ true
from_each p i [] e k j l q = absurd (omega arith)
from_each p i (x ∷ xs) e zero j l q = let z : i ≡ j = omega arith in rw (← z) (and_parts (p i x) (each p (suc i) xs) e).0
from_each p i (x ∷ xs) e (suc k) j l q = from_each p (suc i) xs (and_parts (p i x) (each p (suc i) xs) e).1 k j (omega arith) (omega arith)

-- what passed at every entry holds at each
pub each_at : (p : ℕ → ℕ → Bool) (xs : List ℕ) → each p 0 xs ≡ true → (k : ℕ) → k < length xs → p k (get_or xs k 0) ≡ true
each_at p xs e k l = from_each p 0 xs e k k l (omega arith)

-- the entry of a channel is its partner, a channel whose partner is the channel
abbrev pub right : ℕ → ℕ → Bool
right k x = eqb x (partner k) && (ltb x 240 && eqb (partner x) k)
