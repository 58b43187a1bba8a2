use Rattle.std.proofs.Common.{◌≡◌, ◌-◌, ◌*◌, length}
use Rattle.wiring.specs.Lists.{range, fold}
use Rattle.wiring.specs.Levels.{level_step, level_round}
use Rattle.wiring.specs.Links.{drawn}
use Rattle.wiring.proofs.joining.Graph.run_round.Given as goal

-- what is left of the round leads to its end
abbrev pub invariant-loop-link : goal.invariant-loop-link
invariant-loop-link l =
    let links = l.self.links.now in
    fold (level_step (drawn 0 0 links) l.round) l.ranks (range (2 * l.link-index) (2 * (length links - l.link-index))) ≡ level_round (drawn 0 0 links) l.initial.ranks l.round
