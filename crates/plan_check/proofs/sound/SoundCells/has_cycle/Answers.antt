use Rattle.wiring.specs.Networks.{net}
use Rattle.plan_check.proofs.NotingLaws.{none_noted}
use Rattle.plan_check.proofs.sound.SoundCells.has_cycle.Goals as goal

pub note_layer-requires : goal.note_layer-requires
note_layer-requires g c = record { none = rw c.new-noted.ensures (none_noted (net c.args.self.now.network) 57600) }
