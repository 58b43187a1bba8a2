use Rattle.marks.proofs.SearchLaws.{room_begun}
use Rattle.marks.proofs.visits.Visits.begin.Goals as goal

pub invariant_of-result-clause-room : goal.invariant_of-result-clause-room
invariant_of-result-clause-room c = room_begun c.args.channel c.requires
