use Rattle.wiring.specs.Lists.{fold, range}
use Rattle.wiring.specs.Networks.{net}
use Rattle.plan_check.specs.Cycles.{Deps}
use Rattle.plan_check.specs.Rules.{dep_at}
use Rattle.plan_check.specs.Marks.{Noted}
use Rattle.plan_check.proofs.sound.SoundCells.note_to.Given as goal

abbrev pub invariant-loop-node : goal.invariant-loop-node
invariant-loop-node g l = (D : Deps) → Noted (net l.self.network) l.initial.noted.marks D → Noted (net l.self.network) l.noted.marks (fold (dep_at (net l.self.network) (g.T.Cells.meant l.self.cells.now) l.destination) D (range 0 l.node))
