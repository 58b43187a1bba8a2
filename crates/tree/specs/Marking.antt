-- The marks of escape routes.
use Rattle.std.specs.Prelude.{◌≡◌, ℕ, ◌<◌, List, Option}
use Rattle.std.specs.List.{AllByRecursion}
use Rattle.wiring.specs.Topologies.{Topology}
use Rattle.plan_check.specs.Cycles.{Cycle, Deps}
use Rattle.marks.specs.declared.kinds.Mark.TheVariants.{Used}
use Rattle.marks.specs.Marked.{View, no_marks, with_all}
use Rattle.tree.specs.Dependencies.{Consecutive}

-- on top of whatever was marked before a list of dependencies, the marks gain what f adds to that list at x
abbrev pub Adds : (Deps → ℕ → Deps) → ℕ → View → View → Type 0
Adds f x was v = (u : View) (D : Deps) → was ≡ with_all u D → v ≡ with_all u (f D x)

-- where nothing was marked, exactly the dependencies of the routes are used
abbrev pub MarkedExactly : Topology → List (Option ℕ) → List ℕ → View → View → Type 0
MarkedExactly w us ds was v = was ≡ no_marks → (c e : ℕ) → (v c e ≡ Used → Consecutive w us ds c e) × (Consecutive w us ds c e → v c e ≡ Used)

-- and, where the root and the destinations are nodes, those used have no cycle
abbrev pub MarkedFree : Topology → ℕ → List ℕ → View → View → Type 0
MarkedFree w root ds was v = was ≡ no_marks → root < w.nodes → AllByRecursion (λ d. d < w.nodes) ds → Cycle (λ c e. v c e ≡ Used) → ⊥
