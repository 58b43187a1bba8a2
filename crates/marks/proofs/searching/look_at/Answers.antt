use Rattle.std.proofs.Common.{◌≡◌, ◌+◌, sym, ap, ◌∙◌, subst}
use Rattle.std.proofs.lemmas.Bool.{both_ways}
use Rattle.wiring.specs.Topologies.{Topology, into}
use Rattle.wiring.specs.Networks.{net}
use Rattle.marks.specs.declared.visits.Visits.{Visits}
use Rattle.marks.specs.Marked.{is_used, mark_in}
use Rattle.marks.proofs.MarkedLaws.{used_by_test}
use Rattle.marks.proofs.SearchLaws.{Looked, looked_used, looked_other, looked_all}
use Rattle.marks.proofs.searching.look_at.Goals as goal
use Rattle.marks.proofs.searching.look_at.Goals.{then-is_used, else-is_used}

pub loop-on-preserved : goal.loop-on-preserved
loop-on-preserved c =
    let w = net c.args.network.now in
    let v = mark_in c.args.run.now in
    let x = c.args.channel in
    let os = c.own-own.result.now in
    let i = c.loop-on.on-index in
    let at : c.into.result ≡ into w x = c.into.ensures ∙ ap (λ (t : Topology). into t x) c.wiring.ensures in
    let exact = c.own-own.ensures.exact in
    elim c.if-is_used.branch [
      | then-is_used w' ↦
          subst (λ (u : Visits). Looked w v x os c.args.visits.now u (i + 1)) (sym w'.visits-is)
          (looked_used w v x c.into.result os at exact c.args.visits.now c.loop-on.visits w'.add.new.self i c.loop-on-test.true (used_by_test _ (sym c.is_used.ensures ∙ w'.if-is_used.true)) c.loop-on.invariant w'.add.ensures.grown w'.add.ensures.found)
      | else-is_used w' ↦
          subst (λ (u : Visits). Looked w v x os c.args.visits.now u (i + 1)) (sym w'.visits-is)
          (looked_other w v x c.into.result os at exact c.args.visits.now c.loop-on.visits i (λ z. both_ways c.is_used.result w'.if-is_used.false (c.is_used.ensures ∙ ap is_used z)) c.loop-on.invariant)
    ]

pub returns-clause-found : goal.returns-clause-found
returns-clause-found c =
    let w = net c.args.network.now in
    let at : c.into.result ≡ into w c.args.channel = c.into.ensures ∙ ap (λ (t : Topology). into t c.args.channel) c.wiring.ensures in
    looked_all w (mark_in c.args.run.now) c.args.channel c.into.result c.own-own.result.now at c.own-own.ensures.exact c.args.visits.now c.loop-on.visits c.loop-on.on-index c.loop-on-test.false c.loop-on.invariant
