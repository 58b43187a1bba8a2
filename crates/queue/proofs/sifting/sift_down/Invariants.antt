use Rattle.std.proofs.Common.{◌-◌, length}
use Rattle.std.specs.List.Sorted.{IsPermutation}
use Rattle.std.proofs.HeapSift.{Sinking}
use Rattle.queue.specs.Order.{later}
use Rattle.queue.proofs.OrderLaws.{later_total}
use Rattle.queue.proofs.sifting.sift_down.Given as goal

abbrev pub invariant-loop-at : goal.invariant-loop-at
invariant-loop-at g l = record {
  shuffled : IsPermutation l.initial.run l.run;
  sinking : Sinking (later g.K.Ord.cmp) (later_total g.K.Ord.cmp g.met.K.Ord.total) l.initial.run 0 (length l.initial.run) l.run l.«at»;
}

abbrev pub decreases-loop-at : goal.decreases-loop-at
decreases-loop-at g l = l.len - l.«at»
