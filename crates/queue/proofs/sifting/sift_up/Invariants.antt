use Rattle.std.proofs.Common.{◌-◌, ◌<◌, length}
use Rattle.std.specs.List.Sorted.{IsPermutation}
use Rattle.std.proofs.HeapSift.{Rising}
use Rattle.queue.specs.Order.{later}
use Rattle.queue.proofs.OrderLaws.{later_total}
use Rattle.queue.proofs.sifting.sift_up.Given as goal

abbrev pub invariant-loop-at : goal.invariant-loop-at
invariant-loop-at g l = record {
  in_range : l.«at» < length l.run;
  shuffled : IsPermutation l.initial.run l.run;
  rising : Rising (later g.K.Ord.cmp) (later_total g.K.Ord.cmp g.met.K.Ord.total) l.initial.run (length l.initial.run - 1) l.run l.«at»;
}

abbrev pub decreases-loop-at : goal.decreases-loop-at
decreases-loop-at g l = l.«at»
