use Rattle.wiring.proofs.MakingLaws.{ends_within}
use Rattle.wiring.proofs.making.check.Goals as goal

pub invariant_of-first_unjoined-clause-within : goal.invariant_of-first_unjoined-clause-within
invariant_of-first_unjoined-clause-within c = ends_within c.args.nodes c.args.links.now c.in_default.ensures
