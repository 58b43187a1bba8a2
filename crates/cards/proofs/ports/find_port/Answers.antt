use Rattle.std.proofs.Common.{suc, option_map, sym, ap, ◌∙◌, add-one}
use Rattle.cards.proofs.PortLaws.{port_is_place}
use Rattle.cards.proofs.ports.find_port.Goals as goal

pub returns-in_err-place : goal.returns-in_err-place
returns-in_err-place c = rw c.from_residual.ensures (ap (option_map suc) c.in_err-place.ensures ∙ sym (port_is_place c.args.own.now c.args.channel))

pub returns : goal.returns
returns c = rw add-one (ap (option_map suc) c.in_ok-place.ensures ∙ sym (port_is_place c.args.own.now c.args.channel))
