use Rattle.std.proofs.Common.{◌+◌}
use Rattle.wiring.specs.Networks.{net}
use Rattle.marks.specs.Marked.{mark_in}
use Rattle.marks.specs.Searches.{Next, Known, unseen}
use Rattle.marks.proofs.searching.closes_cycle.Given as goal

abbrev pub invariant-loop-visits : goal.invariant-loop-visits
invariant-loop-visits l = Known (Next (net l.network) (mark_in l.run)) l.spot.dependency.on l.visits

abbrev pub decreases-loop-visits : goal.decreases-loop-visits
decreases-loop-visits l = l.visits.count + unseen l.visits
