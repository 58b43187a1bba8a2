use Rattle.std.proofs.Common.{◌≡◌, ℕ, List, sym, ap, ◌∙◌, subst, arith}
use Rattle.wiring.specs.Topologies.{into}
use Rattle.wiring.specs.Networks.{net}
use Rattle.wiring.specs.Owned.{own, Owns}
use Rattle.wiring.proofs.HeldLaws.{valid}
use Rattle.wiring.proofs.LaidLaws.{few_channels, own_laws}
use Rattle.plan_check.proofs.SweepLaws.{held_own, free_own, sweep_stays, sweep_takes}
use Rattle.plan_check.proofs.cycles.Layer.sweep.Goals as goal
use Rattle.plan_check.proofs.cycles.Layer.sweep.Goals.{then-not-contains+then-not-is_held, else-not-contains, else-not-contains-via-then-not-contains+else-not-is_held, else-not-contains-via-else-not-contains}
use Rattle.std.proofs.lemmas.Bool.{true≢false}

pub loop-channel-preserved : goal.loop-channel-preserved
loop-channel-preserved c =
    let s = c.args.self.now in
    let w = net s.network.now in
    let xs = s.noted.now.marks in
    let l = c.loop-channel in
    let size = l.gone.size in
    let few = few_channels s.network.now.wiring.now in
    let at = into w l.channel in
    let owns : (es : List ℕ) → es ≡ own w at → Owns w at es = λ es e. subst (λ (ds : List ℕ). Owns w at ds) (sym e) (own_laws w (valid s.network.now.wiring.now) at) in
    let place = ap (λ v. into v l.channel) c.wiring-wiring.ensures in
    elim c.if-not-contains.branch [
      | then-not-contains+then-not-is_held b ↦
          let own_channels = owns b.own.result.now (b.own.ensures.answer ∙ ap (own w) (b.into.ensures ∙ place)) in
          rw b.gone-is (rw b.taken-is (rw b.insert.ensures (sweep_takes w xs c.args.gone.now.marks l.channel l.gone.marks l.taken l.invariant (omega arith) (sym c.contains.ensures ∙ b.if-not-contains.true) (λ D N. free_own w xs l.gone.marks l.channel b.own.result.now own_channels D N few (sym b.is_held.ensures ∙ b.if-not-is_held.true)))))
      | else-not-contains b ↦ rw b.gone-is (rw b.taken-is (sweep_stays w xs c.args.gone.now.marks l.channel l.gone.marks l.taken l.invariant (λ e. elim b.else-not-contains.branch [
        | else-not-contains-via-then-not-contains+else-not-is_held d ↦ held_own w xs l.gone.marks l.channel d.own.result.now (owns d.own.result.now (d.own.ensures.answer ∙ ap (own w) (d.into.ensures ∙ place))) (sym d.is_held.ensures ∙ d.if-not-is_held.false)
        | else-not-contains-via-else-not-contains d ↦ absurd (true≢false (sym d.if-not-contains.false ∙ c.contains.ensures ∙ e))
      ])))
    ]
