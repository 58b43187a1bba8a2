use Rattle.std.proofs.Common.{◌≡◌, ℕ, ◌<◌, None}
use Rattle.wiring.specs.Networks.{net}
use Rattle.plan_check.specs.Rules.{layer_fault}
use Rattle.plan_check.proofs.sound.SoundCells.check_layers.Given as goal

abbrev pub invariant-loop-layer : goal.invariant-loop-layer
invariant-loop-layer g l = (k : ℕ) → k < l.layer → layer_fault (net l.self.network) (g.T.Cells.meant l.self.cells.now) k ≡ None
