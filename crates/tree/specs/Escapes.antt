-- Escape routes: along up channels, and back down along their partners.
use Rattle.std.specs.Prelude.{◌≡◌, ℕ, zero, suc, ◌<◌, List, [], ◌∷◌, ◌++◌, length, Some, None, Option, slice_index_or, slice_set}
use Rattle.std.specs.List.{AllByRecursion}
use Rattle.wiring.specs.Topologies.{Topology, channels, partner, from, into}
use Rattle.wiring.specs.Levels.{levels}
use Rattle.plan_check.specs.Routes.{visits, Distinct}

-- from m up to the root, each node passed takes the channel back down
abbrev pub descend : Topology → List (Option ℕ) → ℕ → ℕ → List (Option ℕ) → List (Option ℕ)
descend w us zero m vs = vs
descend w us (suc k) m vs = elim (slice_index_or us m None) [ None ↦ vs | Some c ↦ descend w us k (into w c) (slice_set vs (into w c) (Some (partner c))) ]

-- the channel that each node takes to d, by the up channels
abbrev pub escape_routes : Topology → List (Option ℕ) → ℕ → List (Option ℕ)
escape_routes w us d = descend w us w.nodes d (slice_set us d None)

-- whatever channel stands at a node is one of the wiring and starts there
abbrev pub Known : Topology → List (Option ℕ) → Type 0
Known w vs = (n c : ℕ) → slice_index_or vs n None ≡ Some c → (c < channels w) × (from w c ≡ n)

-- from n along the channels listed, each the one that vs gives the node where it starts, to d
pub data Led (w : Topology) (vs : List (Option ℕ)) (d : ℕ) : ℕ → List ℕ → Type 0 where
  there : Led w vs d d []
  onward : {n c : ℕ} {cs : List ℕ} → slice_index_or vs n None ≡ Some c → from w c ≡ n → Led w vs d (into w c) cs → Led w vs d n (c ∷ cs)

-- where the root is a node, the up channels lead to it from every node, in as many steps as the node's level
abbrev pub AllClimb : Topology → ℕ → List (Option ℕ) → Type 0
AllClimb w root us = root < w.nodes → (n : ℕ) → n < w.nodes → (l : ℕ) × (slice_index_or (levels w root) n None ≡ Some l) × (cs : List ℕ) × Led w us root n cs × (length cs ≡ l)

-- up channels and then partners of up channels
pub record UpThenDown (w : Topology) (us : List (Option ℕ)) (cs : List ℕ) : Type 0 where
  pub up : List ℕ
  pub down : List ℕ
  pub parts : cs ≡ up ++ down
  pub ups_first : AllByRecursion (λ c. slice_index_or us (from w c) None ≡ Some c) up
  pub downs_last : AllByRecursion (λ c. slice_index_or us (into w c) None ≡ Some (partner c)) down

-- what a route to d must be
pub record Escapes (w : Topology) (us : List (Option ℕ)) (n : ℕ) (cs : List ℕ) : Type 0 where
  pub distinct : Distinct (visits w n cs)
  pub shape : UpThenDown w us cs

-- where the root and d are nodes, the channels lead from every node to d, up and then down, and visit no node twice
abbrev pub AllEscape : Topology → ℕ → List (Option ℕ) → ℕ → List (Option ℕ) → Type 0
AllEscape w root us d vs = root < w.nodes → d < w.nodes → (n : ℕ) → n < w.nodes → ((cs : List ℕ) × Led w vs d n cs) × ((cs : List ℕ) → Led w vs d n cs → Escapes w us n cs)
