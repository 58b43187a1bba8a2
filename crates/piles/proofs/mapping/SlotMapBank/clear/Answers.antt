use Rattle.std.proofs.Common.{ap, ◌∙◌}
use Rattle.piles.specs.Slots.{slot_view}
use Rattle.piles.proofs.SlotLaws.{slot_clear}
use Rattle.piles.proofs.mapping.SlotMapBank.clear.Goals as goal

pub returns-clause-after : goal.returns-clause-after
returns-clause-after g c =
    let s = c.args.self.now in
    ap (slot_view s.map) c.clear.ensures.after ∙ slot_clear s.map (g.B.Bank.view s.below) c.args.node _ s.small s.apart _ c.in_ok-slot.ensures c.args.destination
