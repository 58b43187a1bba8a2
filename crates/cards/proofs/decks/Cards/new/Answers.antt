use Rattle.std.proofs.Common.{sym}
use Rattle.wiring.specs.Wirings.{topology}
use Rattle.cards.proofs.GridLaws.{made_is}
use Rattle.cards.proofs.decks.Cards.new.Goals as goal

pub returns : goal.returns
returns g c =
    let w = topology c.in_ok-wiring.wiring in
    let e = c.in_ok-store.ensures in
    (w, sym c.in_ok-wiring.ensures.answer, made_is w _ _ _ c.nodes-nodes.ensures e.0 e.1)
