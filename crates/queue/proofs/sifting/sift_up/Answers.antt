use Rattle.std.proofs.Common.{◌-◌, ◌/◌, length, arith}
use Rattle.std.proofs.lemmas.List.Sorted.{IsPermutation-trans}
use Rattle.std.proofs.HeapSift.{rise_steps}
use Rattle.queue.specs.Order.{later}
use Rattle.queue.proofs.OrderLaws.{compared, later_total}
use Rattle.queue.proofs.sifting.sift_up.Goals as goal

pub loop-at-preserved : goal.loop-at-preserved
loop-at-preserved g c =
    let xs = c.args.run.now in
    let l = c.loop-at in
    let parent = (l.at - 1) / 2 in
    record {
      in_range = omega (arith, c.swap.ensures.len);
      shuffled = IsPermutation-trans xs l.run c.swap.new.self l.invariant.shuffled c.swap.ensures.permutation;
      rising = rise_steps (later g.K.Ord.cmp) (later_total g.K.Ord.cmp g.met.K.Ord.total) xs l.run c.swap.new.self (length xs - 1) l.at (omega arith) (omega arith) (omega arith) c.swap.ensures.after (compared g.K.Ord.cmp l.run l.at parent _ c.if-not-comes_sooner.ensures) l.invariant.rising;
    }
