use Rattle.std.proofs.Common.{sym, ap, ◌∙◌}
use Rattle.wiring.specs.declared.table.Cell.TheVariants.{Hop}
use Rattle.cards.proofs.PortLaws.{port_reads}
use Rattle.cards.proofs.ports.to_port.Goals as goal

pub returns : goal.returns
returns c = λ h. ap (λ e. Hop e c.in-Hop.layer) (port_reads c.args.own.now c.in-Hop.channel c.in_ok-port.port (sym c.in_ok-port.ensures)) ∙ sym c.in-Hop.is
