use Rattle.std.proofs.Common.{◌≡◌, ℕ, List, Option, is_some, ap, ◌∙◌, subst}
use Rattle.wiring.specs.Spans.{owned}
use Rattle.cards.specs.declared.ports.PortCell.{PortCell}
use Rattle.cards.specs.Decks.{grid, Holds}
use Rattle.cards.specs.Porting.{port_of, meant_by, no_cell, standing_by}
use Rattle.cards.proofs.PortLaws.{standing_changed}
use Rattle.cards.proofs.numbered.NumberedStore.set.Goals as goal

pub returns-clause-held : goal.returns-clause-held
returns-clause-held c =
    let s = c.args.self.now in
    let own = owned s.ports in
    let is : meant_by (own c.args.node) c.to_port-kept.result ≡ c.args.cell = subst (λ (xs : List ℕ). Holds (λ e. is_some (port_of xs e)) c.args.cell → meant_by xs c.to_port-kept.result ≡ c.args.cell) c.own.ensures c.to_port-kept.ensures c.requires.within.2 in
    ap (λ (h : ℕ → ℕ → Option PortCell). standing_by own h) (c.set.ensures no_cell)
    ∙ standing_changed own (grid no_cell s.cells.cells.items) c.args.node c.args.destination c.to_port-kept.result c.args.cell is
