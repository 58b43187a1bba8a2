use Rattle.std.proofs.Common.{sym, subst}
use Rattle.wiring.specs.Topologies.{Topology}
use Rattle.wiring.specs.Wirings.{topology}
use Rattle.plan_check.specs.Rules.{Sound}
use Rattle.plan_check.proofs.FirstLaws.{all_sound, let_pass}
use Rattle.plan_check.proofs.sound.SoundCells.new.Goals as goal

pub invariant_of-result : goal.invariant_of-result
invariant_of-result g c =
    let t = g.T.Cells.meant c.args.candidate.now.cells.now in
    record { sound = subst (λ (w : Topology). Sound w t) (sym c.new.ensures) (all_sound (topology c.args.candidate.now.wiring.now) t (sym (let_pass _ c.in_ok-check_rules.ensures))) }
