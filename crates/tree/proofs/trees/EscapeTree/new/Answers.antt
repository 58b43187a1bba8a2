use Rattle.std.proofs.Common.{◌≡◌, ℕ, ◌≤◌, List, get_or, None, Option, sym, refl, ap, ◌∙◌, subst, arith}
use Rattle.wiring.specs.Levels.{padded}
use Rattle.wiring.specs.Networks.{net}
use Rattle.wiring.specs.Topologies.{Topology, Valid}
use Rattle.wiring.specs.Wirings.{topology}
use Rattle.wiring.proofs.HeldLaws.{valid}
use Rattle.tree.specs.Escapes.{AllClimb}
use Rattle.tree.specs.Ups.{up_among, up_channels}
use Rattle.tree.proofs.EscapeLaws.{all_climb}
use Rattle.tree.proofs.RoomLaws.{Filled, filled_none, filled_more, filled_all, get_or_padded}
use Rattle.tree.proofs.UpLaws.{up_found, up_lowest, ups_long}
use Rattle.tree.proofs.trees.EscapeTree.new.Goals as goal

-- once the nodes are through, the channels found are the up channels in room for 64
all_found : (v w : Topology) (root n : ℕ) (xs : List (Option ℕ)) → Valid v → v ≡ w → v.nodes ≤ n → Filled (up_channels v root) n xs → xs ≡ padded (up_channels w root)
all_found v w root n xs ok same over f =
    let few = ok.few_nodes in
    let long = ups_long v root in
    filled_all (up_channels v root) n xs f (omega arith) (omega arith) ∙ ap (λ (x : Topology). padded (up_channels x root)) same

pub loop-node-init : goal.loop-node-init
loop-node-init c = filled_none (up_channels (topology c.wiring-wiring.result.now) c.args.root)

pub loop-node-preserved : goal.loop-node-preserved
loop-node-preserved c =
    let w = topology c.wiring-wiring.result.now in
    let root = c.args.root in
    let l = c.loop-node in
    let same = c.wiring-wiring.ensures in
    let v = valid c.wiring-wiring.result.now in
    let few = v.few_nodes in
    let level = c.levels-levels.ensures.answer in
    filled_more (up_channels w root) l.node l.ups l.invariant c.up_channel.result (omega arith)
    (c.up_channel.ensures ∙ ap (λ (x : Topology). up_among x c.levels-levels.result l.node) (sym same) ∙ ap (λ (xs : List (Option ℕ)). up_among w xs l.node) level ∙ up_found w root v l.node)

pub invariant_of-result : goal.invariant_of-result
invariant_of-result c =
    let v = topology c.wiring-wiring.result.now in
    let count = c.nodes-node-end.ensures in
    let over = c.loop-node-test.false in
    record { climbs = all_found v v c.args.root c.loop-node.node c.loop-node.ups (valid c.wiring-wiring.result.now) refl (omega arith) c.loop-node.invariant }

pub returns : goal.returns
returns c =
    let w = net c.args.network.now in
    let root = c.args.root in
    let same = c.wiring-wiring.ensures in
    let ok = valid c.args.network.now.wiring.now in
    let count = c.nodes-node-end.ensures in
    let over = c.loop-node-test.false in
    let is = all_found (topology c.wiring-wiring.result.now) w root c.loop-node.node c.loop-node.ups (valid c.wiring-wiring.result.now) same (omega arith) c.loop-node.invariant in
    record {
      wiring = same;
      root = refl;
      ups = is;
      lowest = λ n. up_lowest w root ok n _ (sym (ap (λ (us : List (Option ℕ)). get_or us n None) is ∙ get_or_padded _ n));
      climb = subst (AllClimb w root) (sym is) (all_climb w root ok);
    }
