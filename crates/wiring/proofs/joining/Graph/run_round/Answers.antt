use Rattle.std.proofs.Common.{ℕ, ◌+◌, ◌-◌, ◌*◌, List, length, get_or, Option, sym, ap, ◌∙◌}
use Rattle.wiring.specs.Lists.{range, fold}
use Rattle.wiring.specs.Levels.{level_step}
use Rattle.wiring.specs.Links.{drawn, no_link}
use Rattle.wiring.specs.Levels.{spread}
use Rattle.wiring.proofs.RoundLaws.{round_more}
use Rattle.wiring.proofs.joining.Graph.run_round.Goals as goal

pub loop-link-preserved : goal.loop-link-preserved
loop-link-preserved c =
    let l = c.loop-link in
    let ls = c.args.self.now.links.now in
    let f : List (Option ℕ) → ℕ → List (Option ℕ) = level_step (drawn 0 0 ls) c.args.round in
    let link = get_or ls l.link-index no_link in
    let both = c.offer-in-loop-link.ensures.after ∙ ap (λ (s : List (Option ℕ)). spread c.args.round s link.second link.first) c.offer.ensures.after in
    ap (λ (s : List (Option ℕ)). fold f s (range (2 * (l.link-index + 1)) (2 * (length ls - (l.link-index + 1))))) both
    ∙ sym (round_more 0 0 ls l.link-index c.loop-link-test.true c.args.round l.ranks)
    ∙ l.invariant
