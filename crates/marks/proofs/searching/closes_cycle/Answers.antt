use Rattle.std.proofs.Common.{get_or, ap, ◌∙◌, arith}
use Rattle.std.proofs.lemmas.Bool.{both_ways}
use Rattle.marks.proofs.SearchLaws.{taken_none, taken_some, known_begin, known_step, known_end}
use Rattle.marks.proofs.searching.closes_cycle.Goals as goal

pub loop-visits-init : goal.loop-visits-init
loop-visits-init c = let b = c.begin-visits in known_begin _ c.args.spot.dependency.on b.result c.args.spot.within.1 b.ensures.seen b.ensures.stack b.ensures.count

pub returns-in_default-clause-no : goal.returns-in_default-clause-no
returns-in_default-clause-no c = λ _ r.
    let none = taken_none c.loop-visits.visits c.in_default.ensures.answer in
    both_ways _ c.loop-visits-test.true (known_end _ c.args.spot.dependency.on c.loop-visits.visits c.args.spot.dependency.channel none c.loop-visits.invariant r)

pub loop-visits-preserved : goal.loop-visits-preserved
loop-visits-preserved c =
    let s = c.loop-visits.visits in
    let t = c.take in
    let some = taken_some s c.in-Some.channel c.in-Some.ensures.answer in
    let least = some.0 in
    let count = t.ensures.count in
    known_step _ c.args.spot.dependency.on c.in-Some.channel s t.new.self c.look_at.new.visits t.ensures.seen t.ensures.stack (omega arith) (ap (λ k. get_or s.stack k 0) count ∙ some.1) c.loop-visits.invariant c.look_at.ensures.grown c.look_at.ensures.found
