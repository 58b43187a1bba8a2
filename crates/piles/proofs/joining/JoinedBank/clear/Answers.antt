use Rattle.std.proofs.Common.{Ok, sym, ap, ◌∙◌}
use Rattle.bank.specs.Banks.{View}
use Rattle.piles.specs.Cabinets.{joined_view}
use Rattle.piles.proofs.CabinetLaws.{second_clear}
use Rattle.piles.proofs.joining.JoinedBank.clear.Goals as goal

pub returns-in-Second-clause-after : goal.returns-in-Second-clause-after
returns-in-Second-clause-after g c =
    let j = c.args.self.now in
    let a = g.A.Bank.view j.first in
    ap (λ (v : View). joined_view j.split a v) c.clear-in-Second.ensures.after ∙ second_clear j.split a (g.B.Bank.view j.second) c.args.node _ (sym (ap Ok c.in-Second.is) ∙ sym c.in_ok-number.was ∙ c.side.ensures) c.args.destination
