use Rattle.std.proofs.Common.{ℕ, List, Option, ap, ◌∙◌, rules}
use Rattle.wiring.specs.Spans.{owned}
use Rattle.wiring.specs.Wirings.{topology}
use Rattle.wiring.proofs.HeldLaws.{valid}
use Rattle.cards.specs.declared.ports.PortCell.{PortCell}
use Rattle.cards.specs.Decks.{grid}
use Rattle.cards.specs.Porting.{no_cell, standing_by}
use Rattle.cards.proofs.GridLaws.{grid_none}
use Rattle.cards.proofs.PortLaws.{owned_by_ports}
use Rattle.cards.proofs.numbered.NumberedStore.new.Goals as goal

pub returns : goal.returns
returns c =
    let p = c.new-ports.result in
    let empty = ap (λ (xs : List (Option PortCell)). grid no_cell xs) (c.in_ok-cells.ensures.items_if_clones_equal (λ y e. search rules)) ∙ grid_none no_cell 4096 in
    (owned_by_ports (topology c.args.wiring) (valid c.args.wiring) p c.new-ports.ensures.answer, ap (λ (h : ℕ → ℕ → Option PortCell). standing_by (owned p) h) empty)
