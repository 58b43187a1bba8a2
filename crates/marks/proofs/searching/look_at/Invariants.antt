use Rattle.wiring.specs.Networks.{net}
use Rattle.marks.specs.Marked.{mark_in}
use Rattle.marks.proofs.SearchLaws.{Looked}
use Rattle.marks.proofs.searching.look_at.Given as goal

abbrev pub invariant-loop-on : goal.invariant-loop-on
invariant-loop-on l = Looked (net l.network) (mark_in l.run) l.channel l.own l.initial.visits l.visits l.on-index
