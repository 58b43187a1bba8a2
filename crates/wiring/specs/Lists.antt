-- Small words on lists and on answers.
use Rattle.std.specs.Prelude.{ℕ, zero, suc, Bool, true, false, cond, List, [], ◌∷◌, Some, None, Ok, Err, Option, Result}

-- n numbers from i upward
abbrev pub range : ℕ → ℕ → List ℕ
range i zero = []
range i (suc n) = i ∷ range (suc i) n

abbrev pub fold : {S X : Type 0} → (S → X → S) → S → List X → S
fold f s [] = s
fold f s (x ∷ xs) = fold f (f s x) xs

-- the first that passes a test
abbrev pub first_that : {X : Type 0} → (X → Bool) → List X → Option X
first_that p [] = None
first_that p (x ∷ xs) = elim (p x) [ true ↦ Some x | false ↦ first_that p xs ]

-- the first thing that f finds along a list
abbrev pub first_some : {X Y : Type 0} → (X → Option Y) → List X → Option Y
first_some f [] = None
first_some f (x ∷ xs) = elim (f x) [ Some y ↦ Some y | None ↦ first_some f xs ]

-- a fault comes before the answer
abbrev pub unless : {F X : Type 0} → Option F → Result X F → Result X F
unless (Some f) a = Err f
unless None a = a

-- a test comes before the answer
abbrev pub only_if : {F X : Type 0} → Bool → F → Result X F → Result X F
only_if b f a = cond b a (Err f)

-- an answer goes on where there is a value
abbrev pub after : {F X Y : Type 0} → Result X F → (X → Result Y F) → Result Y F
after (Err f) k = Err f
after (Ok x) k = k x

-- a test comes before what else is found
abbrev pub when_not : {F : Type 0} → Bool → F → Option F → Option F
when_not true f o = o
when_not false f o = Some f

-- a fault comes before a later one
abbrev pub or_else : {F : Type 0} → Option F → Option F → Option F
or_else (Some f) o = Some f
or_else None o = o
