-- Dependencies as marks in a square of 240 on a side, and channels that are gone.
use Rattle.std.specs.Prelude.{◌≡◌, ℕ, ◌+◌, ◌*◌, ◌<◌, Bool, true, false, not, List, ◌∷◌, length, Some, None, count_by, Option, slice_index, slice_index_or}
use Rattle.wiring.specs.Topologies.{Topology, channels, from, into}
use Rattle.plan_check.specs.Cycles.{Deps, Linked, has}
use Rattle.wiring.specs.declared.dependencies.Dependency.{Dependency}

abbrev pub mark : List Bool → ℕ → ℕ → Bool
mark xs c e = slice_index_or xs (240 * c + e) false

-- both are channels of the wiring, and the second starts where the first ends
abbrev pub Follows : Topology → ℕ → ℕ → Type 0
Follows w c e = (c < channels w) × (e < channels w) × (from w e ≡ into w c)

-- the marks are those of a list of dependencies
pub record Noted (w : Topology) (xs : List Bool) (D : Deps) : Type 0 where
  pub same : (c e : ℕ) → c < 240 → e < 240 → mark xs c e ≡ has c e D
  pub follows : (c e : ℕ) → has c e D ≡ true → Follows w c e

abbrev pub with_dep : Option Dependency → Deps → Deps
with_dep None D = D
with_dep (Some p) D = (p.channel, p.on) ∷ D

abbrev pub Within : Topology → Option Dependency → Type 0
Within w None = Unit {0}
Within w (Some p) = Follows w p.channel p.on

abbrev pub is_gone : List Bool → ℕ → Bool
is_gone gone c = slice_index_or gone c false

-- c depends on one of these that is left
abbrev pub HeldAmong : List ℕ → List Bool → List Bool → ℕ → Type 0
HeldAmong es xs gone c = (k : ℕ) × (k < length es) × (mark xs c (slice_index es k) ≡ true) × (is_gone gone (slice_index es k) ≡ false)

-- of the first k of these, c depends on none that is left
abbrev pub FreeAmong : List ℕ → List Bool → List Bool → ℕ → ℕ → Type 0
FreeAmong es xs gone c k = (i : ℕ) → i < k → mark xs c (slice_index es i) ≡ true → is_gone gone (slice_index es i) ≡ true

-- c depends on a channel that is left
abbrev pub Held : Topology → List Bool → List Bool → ℕ → Type 0
Held w xs gone c = (e : ℕ) × (e < channels w) × (mark xs c e ≡ true) × (is_gone gone e ≡ false)

-- every channel that is left depends on one that is left
abbrev pub Stuck : Topology → List Bool → List Bool → Type 0
Stuck w xs gone = (c : ℕ) → c < channels w → is_gone gone c ≡ false → Held w xs gone c

abbrev pub Left : List Bool → ℕ → Type 0
Left gone n = (c : ℕ) × (c < n) × (is_gone gone c ≡ false)

-- a channel that is gone depends only on such, and is on no cycle
abbrev pub Grounded : Deps → List Bool → Type 0
Grounded D gone = (c : ℕ) → is_gone gone c ≡ true → ((e : ℕ) → has c e D ≡ true → is_gone gone e ≡ true) × ((cs : List ℕ) → Linked (λ a b. has a b D ≡ true) c cs c → ⊥)

-- after a sweep
pub record Swept (w : Topology) (xs was gone : List Bool) (taken : Bool) : Type 0 where
  pub grounded : (D : Deps) → Noted w xs D → Grounded D was → Grounded D gone
  pub fewer : taken ≡ true → count_by not gone < count_by not was
  pub stuck : taken ≡ false → Stuck w xs gone
