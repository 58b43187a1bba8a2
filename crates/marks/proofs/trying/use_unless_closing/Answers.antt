use Rattle.std.proofs.Common.{◌≡◌, ◌+◌, ◌*◌, sym, ap, ◌∙◌, subst, arith, rules}
use Rattle.wiring.specs.Networks.{net}
use Rattle.marks.specs.declared.kinds.Mark.TheVariants.{Used}
use Rattle.marks.specs.Marked.{View, mark_in, with_mark}
use Rattle.marks.specs.Searches.{Next, Reach}
use Rattle.marks.proofs.MarkedLaws.{mark_place, mark_set, put_back}
use Rattle.marks.proofs.trying.use_unless_closing.Goals as goal
use Rattle.marks.proofs.trying.use_unless_closing.Goals.{After-closes_cycle}

pub returns-then-closes_cycle-clause-back : goal.returns-then-closes_cycle-clause-back
returns-then-closes_cycle-clause-back c =
    let d = c.args.spot.dependency in
    let here = mark_place c.args.run.now d.channel d.on c.args.spot.within.0 c.args.spot.within.1 in
    let back = put_back c.args.run.now (240 * d.channel + d.on) (sym here ∙ c.requires) in
    search rules

-- the marks searched are those with the one on trial used
searched : (c : After-closes_cycle) → mark_in c.run.result.now ≡ with_mark (mark_in c.args.run.now) c.args.spot.dependency.channel c.args.spot.dependency.on Used
searched c =
    let d = c.args.spot.dependency in
    ap mark_in (c.run.ensures ∙ c.begin-trial.ensures.run) ∙ mark_set c.args.run.now d.channel d.on Used c.args.spot.within.0 c.args.spot.within.1 (omega (arith, c.told-run))

pub returns-then-closes_cycle-clause-closed : goal.returns-then-closes_cycle-clause-closed
returns-then-closes_cycle-clause-closed c = λ _.
    let d = c.args.spot.dependency in
    subst (λ (v : View). Reach (Next (net c.args.network.now) v) d.on d.channel) (searched (goal.at.returns-then-closes_cycle-clause-closed c).After-closes_cycle)
    (c.closes_cycle.ensures.yes c.if-closes_cycle.true)

pub returns-clause-free : goal.returns-clause-free
returns-clause-free c = λ _.
    let d = c.args.spot.dependency in
    subst (λ (v : View). Reach (Next (net c.args.network.now) v) d.on d.channel → ⊥) (searched (goal.at.returns-clause-free c).After-closes_cycle)
    (c.closes_cycle.ensures.no c.if-closes_cycle.false)
