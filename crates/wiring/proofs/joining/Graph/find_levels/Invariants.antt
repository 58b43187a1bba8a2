use Rattle.std.proofs.Common.{◌≡◌, ◌-◌}
use Rattle.wiring.specs.Lists.{range, fold}
use Rattle.wiring.specs.Levels.{level_round, levels}
use Rattle.wiring.specs.Links.{drawn}
use Rattle.wiring.proofs.joining.Graph.find_levels.Given as goal

-- the rounds that are left lead to the levels
abbrev pub invariant-loop-round : goal.invariant-loop-round
invariant-loop-round l =
    let w = drawn l.self.nodes 0 l.self.links.now in
    fold (level_round w) l.ranks (range l.round (l.self.nodes - l.round)) ≡ levels w l.root
