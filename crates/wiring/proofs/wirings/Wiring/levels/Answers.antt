use Rattle.std.proofs.Common.{None, length, sym, ap, ◌∙◌, subst}
use Rattle.std.proofs.lemmas.List.{length-replicate, take-replicate}
use Rattle.wiring.specs.Levels.{levels, LevelsLeast}
use Rattle.wiring.specs.Wirings.{topology}
use Rattle.wiring.proofs.HeldLaws.{valid}
use Rattle.wiring.proofs.LevelingLaws.{ends_held, levels_held, in_room, levels_least}
use Rattle.wiring.proofs.wirings.Wiring.levels.Goals as goal

pub invariant_of-graph : goal.invariant_of-graph
invariant_of-graph c =
    let w = c.args.self.now in
    record { few = w.few; within = ends_held w c.links.result.now c.links.ensures }

pub find_levels-requires : goal.find_levels-requires
find_levels-requires c = let w = c.args.self.now in take-replicate w.nodes 64 None w.few

pub returns : goal.returns
returns c =
    let w = c.args.self.now in
    let root = c.args.root in
    let empty = take-replicate w.nodes 64 None w.few in
    let answer = in_room w.nodes c.find_levels.new.ranks (levels (topology w) root) (c.find_levels.ensures ∙ levels_held w c.links.result.now c.links.ensures root) (c.find_levels.auto.ranks ∙ ap length empty ∙ length-replicate w.nodes None) in
    record { answer = answer; least = subst (LevelsLeast (topology w) root) (sym answer) (levels_least (topology w) (valid w) root) }
