use Rattle.std.proofs.Common.{ℕ, ◌+◌, ◌-◌, List, Option, sym, ap, ◌∙◌, arith}
use Rattle.wiring.specs.Lists.{range, fold}
use Rattle.wiring.specs.Levels.{level_round}
use Rattle.wiring.specs.Links.{drawn}
use Rattle.wiring.proofs.RoundLaws.{fold_more}
use Rattle.wiring.proofs.joining.Graph.find_levels.Goals as goal

pub loop-round-preserved : goal.loop-round-preserved
loop-round-preserved c =
    let l = c.loop-round in
    let g = c.args.self.now in
    let w = drawn g.nodes 0 g.links.now in
    ap (λ (s : List (Option ℕ)). fold (level_round w) s (range (l.round + 1) (g.nodes - (l.round + 1)))) c.run_round.ensures
    ∙ sym (fold_more (level_round w) l.ranks l.round g.nodes (omega arith))
    ∙ l.invariant
