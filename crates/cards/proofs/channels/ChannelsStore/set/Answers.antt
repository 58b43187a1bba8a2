use Rattle.wiring.specs.declared.table.Cell.TheVariants.{Empty}
use Rattle.cards.proofs.channels.ChannelsStore.set.Goals as goal

pub returns-clause-held : goal.returns-clause-held
returns-clause-held c = c.set.ensures Empty
