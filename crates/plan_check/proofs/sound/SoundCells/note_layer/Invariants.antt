use Rattle.std.proofs.Common.{[]}
use Rattle.wiring.specs.Lists.{fold, range}
use Rattle.wiring.specs.Networks.{net}
use Rattle.plan_check.specs.Rules.{deps_of}
use Rattle.plan_check.specs.Marks.{Noted}
use Rattle.plan_check.proofs.sound.SoundCells.note_layer.Given as goal

abbrev pub invariant-loop-destination : goal.invariant-loop-destination
invariant-loop-destination g l = Noted (net l.self.network) l.noted.marks (fold (deps_of (net l.self.network) (g.T.Cells.meant l.self.cells.now) l.layer) [] (range 0 l.destination))
