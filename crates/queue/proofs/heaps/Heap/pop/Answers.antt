use Rattle.std.proofs.Common.{◌-◌, arith, rules}
use Rattle.queue.proofs.ContentLaws.{pop_keeps}
use Rattle.queue.proofs.HeapLaws.{pop_least, pop_ordered}
use Rattle.queue.proofs.heaps.Heap.pop.Goals as goal

pub invariant_of-self : goal.invariant_of-self
invariant_of-self g c =
    let h = c.args.self.now in
    let moved = c.sift_down.ensures in
    record { ordered = pop_ordered g.K.Ord.cmp g.met.K.Ord.total h.entries.now h.len (h.len - 0) (h.len - 1 - 0) c.index-run-0.result c.index-run-len.result (omega arith) (omega arith) c.index-run-0.is c.index-run-len.is c.sift_down.new.run moved.shuffled moved.sinks h.ordered _ (omega arith) }

pub returns-clause-popped : goal.returns-clause-popped
returns-clause-popped g c =
    let h = c.args.self.now in
    let moved = c.sift_down.ensures in
    let first = c.index-run-0.result in
    let last = c.index-run-len.result in
    let keeps = pop_keeps h.entries.now h.len (h.len - 0) (h.len - 1 - 0) first last h.ordered.within (omega arith) (omega arith) c.index-run-0.is c.index-run-len.is c.sift_down.new.run moved.shuffled (h.len - 1) (omega arith) in (
      omega arith,
      pop_least g.K.Ord.cmp g.met.K.Ord.total h.entries.now h.len (h.len - 0) (h.len - 1 - 0) _ last (omega arith) (omega arith) (search rules) c.index-run-len.is c.sift_down.new.run moved.shuffled moved.sinks h.ordered,
      keeps.0,
      keeps.1,
    )
