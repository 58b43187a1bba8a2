-- Routes along the cells.
use Rattle.std.specs.Prelude.{◌≡◌, ℕ, ◌<◌, List, [], ◌∷◌, ◌≢◌}
use Rattle.wiring.specs.Topologies.{Topology, from, into}
use Rattle.wiring.specs.declared.table.Cell.TheVariants.{Hop}
use Rattle.wiring.specs.Tables.{Table}

-- a route to d: from n along the channels listed, by the cells for d
pub data Route (w : Topology) (t : Table) (d : ℕ) : ℕ → List ℕ → Type 0 where
  there : Route w t d d []
  onward : {n c v : ℕ} {cs : List ℕ} → (n ≢ d) → t d n ≡ Hop c v → from w c ≡ n → Route w t d (into w c) cs → Route w t d n (c ∷ cs)

abbrev pub visits : Topology → ℕ → List ℕ → List ℕ
visits w n [] = n ∷ []
visits w n (c ∷ cs) = n ∷ visits w (into w c) cs

abbrev pub Apart : ℕ → List ℕ → Type 0
Apart x [] = Unit {0}
Apart x (y ∷ ys) = (x ≢ y) × Apart x ys

abbrev pub Distinct : List ℕ → Type 0
Distinct [] = Unit {0}
Distinct (x ∷ xs) = Apart x xs × Distinct xs

-- the cells lead from every node to every other, and no route visits a node twice
abbrev pub AllLead : Topology → Table → Type 0
AllLead w t = (n d : ℕ) → n < w.nodes → d < w.nodes → ((cs : List ℕ) × Route w t d n cs) × ((cs : List ℕ) → Route w t d n cs → Distinct (visits w n cs))
