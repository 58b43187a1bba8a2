use Rattle.std.proofs.Common.{◌+◌, ◌-◌, refl, arith}
use Rattle.queue.proofs.ContentLaws.{push_keeps}
use Rattle.queue.proofs.heaps.Heap.push.Goals as goal

pub returns-clause-pushed : goal.returns-clause-pushed
returns-clause-pushed g c =
    let h = c.args.self.now in
    let keeps = push_keeps h.entries.now h.len (h.len + 1 - 0) c.args.new (omega arith) (omega arith) c.sift_up.new.run c.sift_up.ensures.shuffled in
    (refl, keeps.0, keeps.1)
