use Rattle.std.proofs.Common.{ap, ◌∙◌}
use Rattle.piles.specs.Slots.{slot_view}
use Rattle.piles.proofs.SlotLaws.{slot_put}
use Rattle.piles.proofs.mapping.SlotMapBank.put.Goals as goal

pub returns-clause-after : goal.returns-clause-after
returns-clause-after g c =
    let s = c.args.self.now in
    ap (slot_view s.map) c.put.ensures.after ∙ slot_put s.map (g.B.Bank.view s.below) c.args.node _ s.small s.apart _ c.in_ok-slot.ensures c.args.destination c.args.channel c.args.layer
