use Rattle.std.proofs.Common.{◌<◌, sym, ◌∙◌, arith}
use Rattle.wiring.specs.Wirings.{topology}
use Rattle.wiring.proofs.LaidLaws.{listed_miss, listed_hit, listed_room}
use Rattle.wiring.proofs.laying.list_own.Goals as goal

pub loop-channel-preserved-then-from-node : goal.loop-channel-preserved-then-from-node
loop-channel-preserved-then-from-node c =
    let l = c.loop-channel in
    listed_miss (topology c.args.wiring.now) c.args.node c.args.begin c.args.held.now l.channel l.held l.top l.invariant (λ e. c.if-from-node.true (c.from.ensures ∙ e))

-- one more channel starts at the node, so there is room for it
room : (c : goal.After-way_told-1) → c.loop-channel.top < 240
room c =
    let l = c.loop-channel in
    let below = c.loop-channel-test.true in
    let count = c.channels-count.ensures in
    let free = c.requires in
    let h = listed_room (topology c.args.wiring.now) c.args.node c.args.begin c.args.held.now l.channel l.held l.top l.invariant (omega arith) (sym c.from.ensures ∙ c.if-from-node.false) in
    omega arith

pub bounds-held-top : goal.bounds-held-top
bounds-held-top c = let h = room c in omega arith

pub loop-channel-preserved : goal.loop-channel-preserved
loop-channel-preserved c =
    let l = c.loop-channel in
    let h = room c in
    listed_hit (topology c.args.wiring.now) c.args.node c.args.begin c.args.held.now l.channel l.held l.top l.invariant (omega arith) (sym c.from.ensures ∙ c.if-from-node.false)
