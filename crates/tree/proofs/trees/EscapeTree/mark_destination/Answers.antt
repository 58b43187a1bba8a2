use Rattle.std.proofs.Common.{◌≡◌, ℕ, get_or, sym, ap, ◌∙◌, subst, arith}
use Rattle.wiring.specs.Lists.{fold}
use Rattle.wiring.specs.Topologies.{all_nodes}
use Rattle.wiring.proofs.HeldLaws.{valid}
use Rattle.wiring.proofs.TopologyLaws.{length_range, get_or_range}
use Rattle.plan_check.specs.Cycles.{Deps}
use Rattle.marks.specs.Marked.{marked}
use Rattle.tree.specs.Dependencies.{dep_of}
use Rattle.tree.specs.Escapes.{Known, escape_routes}
use Rattle.tree.specs.Marking.{Adds}
use Rattle.marks.specs.Marked.{with_all}
use Rattle.tree.specs.Trees.{net_of, ups_of}
use Rattle.tree.proofs.EscapeLaws.{escape_known}
use Rattle.tree.proofs.MarkingLaws.{added_more, added_all, dep_padded, known_padded}
use Rattle.tree.proofs.trees.EscapeTree.mark_destination.Goals as goal

pub mark_node-requires : goal.mark_node-requires
mark_node-requires c =
    let t = c.args.self.now in
    let w = net_of t in
    let d = c.args.destination in
    let v = valid t.wiring.now in
    let is = c.routes_to-routes.ensures.answer in
    subst (Known w) (sym is) (known_padded w (escape_routes w (ups_of t) d) (escape_known w t.root v d))

pub loop-node-preserved : goal.loop-node-preserved
loop-node-preserved c =
    let t = c.args.self.now in
    let w = net_of t in
    let n = c.loop-node.node in
    let below = c.loop-node-test.true in
    let count = c.nodes-node-end.ensures in
    let long = length_range 0 w.nodes in
    let here : get_or (all_nodes w) n 0 ≡ n = get_or_range 0 w.nodes n 0 (omega arith) ∙ omega arith in
    added_more (dep_of w c.routes_to-routes.result) (all_nodes w) (marked c.args.marks.now) n (marked c.loop-node.marks) (marked c.mark_node.new.marks) (omega arith) c.loop-node.invariant
    (subst (λ m. Adds (dep_of w c.routes_to-routes.result) m (marked c.loop-node.marks) (marked c.mark_node.new.marks)) (sym here) c.mark_node.ensures)

pub returns : goal.returns
returns c = λ u D q.
    let t = c.args.self.now in
    let w = net_of t in
    let vs = escape_routes w (ups_of t) c.args.destination in
    let over = c.loop-node-test.false in
    let count = c.nodes-node-end.ensures in
    let long = length_range 0 w.nodes in
    let same = ap (dep_of w) c.routes_to-routes.ensures.answer ∙ dep_padded w vs in
    added_all (dep_of w c.routes_to-routes.result) (all_nodes w) (marked c.args.marks.now) c.loop-node.node (marked c.loop-node.marks) (omega arith) c.loop-node.invariant u D q
    ∙ ap (λ (f : Deps → ℕ → Deps). with_all u (fold f D (all_nodes w))) same
