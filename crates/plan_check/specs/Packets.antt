-- Stalled packets, and that no set of them waits in a circle.
use Rattle.std.specs.Prelude.{◌≡◌, ℕ, ◌<◌, List, [], ◌∷◌, ◌++◌, length, ◌≢◌, slice_index_or}
use Rattle.wiring.specs.Topologies.{Topology, into}
use Rattle.wiring.specs.declared.table.Cell.TheVariants.{Hop}
use Rattle.wiring.specs.Tables.{Table}
use Rattle.plan_check.specs.Rules.{layer_of}
use Rattle.plan_check.specs.Routes.{Route}

-- a packet, its destination, and the channels that it holds: one, and the rest in their order
pub record Packet : Type 0 where
  pub dest : ℕ
  pub first : ℕ
  pub rest : List ℕ

abbrev pub held : Packet → List ℕ
held p = p.first ∷ p.rest

abbrev pub last_of : ℕ → List ℕ → ℕ
last_of c [] = c
last_of c (x ∷ xs) = last_of x xs

abbrev pub last : Packet → ℕ
last p = last_of p.first p.rest

-- it holds one or more consecutive channels of a route to its destination
pub record Stalled (w : Topology) (t : Table) (p : Packet) : Type 0 where
  pub source : ℕ
  pub before : List ℕ
  pub beyond : List ℕ
  pub known : (p.dest < w.nodes) × (source < w.nodes)
  pub route : Route w t p.dest source (before ++ (held p ++ beyond))

pub data In (x : ℕ) : List ℕ → Type 0 where
  now' : {xs : List ℕ} → In x (x ∷ xs)
  later : {y : ℕ} {xs : List ℕ} → In x xs → In x (y ∷ xs)

-- q blocks p: p is short of its destination, and q holds the channel that p takes next, in p's layer
pub record Blocks (w : Topology) (t : Table) (q p : Packet) : Type 0 where
  pub short : into w (last p) ≡ p.dest → ⊥
  pub next : ℕ
  pub layer : ℕ
  pub takes : t p.dest (into w (last p)) ≡ Hop next layer
  pub same : layer_of t q.dest ≡ layer_of t p.dest
  pub holds : In next (held q)

-- one of the set that no other of the set blocks
pub record Unblocked (w : Topology) (t : Table) (ps : List Packet) : Type 0 where
  pub one : ℕ
  pub within : one < length ps
  pub free : (j : ℕ) → j < length ps → (j ≢ one) → (any : Packet) → Blocks w t (slice_index_or ps j any) (slice_index_or ps one any) → ⊥

abbrev pub Each : (Packet → Type 0) → List Packet → Type 0
Each P [] = Unit {0}
Each P (p ∷ ps) = P p × Each P ps

-- every nonempty set of stalled packets has one that no other of the set blocks
abbrev pub NoDeadlock : Topology → Table → Type 0
NoDeadlock w t = (p : Packet) (ps : List Packet) → Each (Stalled w t) (p ∷ ps) → Unblocked w t (p ∷ ps)
