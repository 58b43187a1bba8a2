use Rattle.std.proofs.Common.{refl, ap, ◌∙◌}
use Rattle.wiring.specs.declared.table.Cell.TheVariants.{Empty}
use Rattle.cards.specs.Decks.{entry}
use Rattle.cards.proofs.GridLaws.{grid_none}
use Rattle.cards.proofs.channels.ChannelsStore.new.Goals as goal

pub returns : goal.returns
returns c = (refl, ap entry (c.in_ok-cells.ensures.items_if_clones_equal (λ y e. e)) ∙ grid_none Empty 4096)
