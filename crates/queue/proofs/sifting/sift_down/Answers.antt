use Rattle.std.proofs.Common.{◌≡◌, length, subst, arith}
use Rattle.std.specs.BinaryHeap.Sift.{IsGreaterChild}
use Rattle.std.proofs.lemmas.List.Sorted.{IsPermutation-trans}
use Rattle.std.proofs.HeapSift.{sink_steps, sink_rests}
use Rattle.queue.specs.Order.{later}
use Rattle.queue.proofs.OrderLaws.{compared, later_total}
use Rattle.queue.proofs.sifting.sift_down.Goals as goal

pub returns-then-not-comes_sooner-clause-sinks : goal.returns-then-not-comes_sooner-clause-sinks
returns-then-not-comes_sooner-clause-sinks g c =
    let xs = c.args.run.now in
    let l = c.loop-at in
    let child = c.first_child-child.result in
    let best = subst (IsGreaterChild (later g.K.Ord.cmp) l.run l.at child) l.auto.run c.first_child-child.ensures.best in
    sink_rests (later g.K.Ord.cmp) (later_total g.K.Ord.cmp g.met.K.Ord.total) xs l.run 0 (length xs) l.at child best (compared g.K.Ord.cmp l.run child l.at _ c.if-not-comes_sooner.ensures) l.invariant.sinking

pub loop-at-preserved : goal.loop-at-preserved
loop-at-preserved g c =
    let xs = c.args.run.now in
    let l = c.loop-at in
    let child = c.first_child-child.result in
    let bound = c.first_child-child.ensures.bound in
    let best = subst (IsGreaterChild (later g.K.Ord.cmp) l.run l.at child) l.auto.run c.first_child-child.ensures.best in
    let long : length l.run ≡ length xs = l.auto.run in
    record {
      shuffled = IsPermutation-trans xs l.run c.swap.new.self l.invariant.shuffled c.swap.ensures.permutation;
      sinking = sink_steps (later g.K.Ord.cmp) (later_total g.K.Ord.cmp g.met.K.Ord.total) xs l.run c.swap.new.self 0 (length xs) l.at child (omega arith) bound.1 bound.2 (omega arith) (omega arith) c.swap.ensures.after best (compared g.K.Ord.cmp l.run child l.at _ c.if-not-comes_sooner.ensures) l.invariant.sinking;
    }
