use Rattle.std.proofs.Common.{ℕ, List, set, None, Option, sym, ap, ◌∙◌, subst}
use Rattle.wiring.proofs.HeldLaws.{valid}
use Rattle.tree.specs.Escapes.{AllEscape}
use Rattle.tree.specs.Trees.{net_of, ups_of}
use Rattle.tree.proofs.DescentLaws.{descend_end}
use Rattle.tree.proofs.EscapeLaws.{descent_begins, all_escape}
use Rattle.tree.proofs.UpLaws.{level}
use Rattle.tree.proofs.trees.EscapeTree.routes_to.Goals as goal

pub loop-channel-init : goal.loop-channel-init
loop-channel-init c =
    let t = c.args.self.now in
    let d = c.args.destination in
    descent_begins (net_of t) t.root (valid t.wiring.now) d _ (c.set_node.ensures ∙ ap (λ (us : List (Option ℕ)). set us d None) t.climbs)

pub returns-clause-arrive : goal.returns-clause-arrive
returns-clause-arrive c =
    let t = c.args.self.now in
    let w = net_of t in
    let us = ups_of t in
    let d = c.args.destination in
    let is = sym (descend_end w us (level w t.root c.loop-channel.node) c.loop-channel.node c.loop-channel.routes (sym c.in_default.ensures.answer)) ∙ c.loop-channel.invariant in
    subst (AllEscape w t.root us d) (sym is) (all_escape w t.root (valid t.wiring.now) d)
