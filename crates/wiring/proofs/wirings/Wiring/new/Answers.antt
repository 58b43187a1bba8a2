use Rattle.std.proofs.Common.{Some, sym, ap, ◌∙◌, subst}
use Rattle.std.proofs.lemmas.Result.{err_from_is_err_and}
use Rattle.wiring.specs.Links.{drawn}
use Rattle.wiring.specs.Topologies.{Valid}
use Rattle.wiring.specs.Soundness.{topology_fault}
use Rattle.wiring.proofs.SoundnessLaws.{sound_valid, told_unjoined}
use Rattle.wiring.proofs.MakingLaws.{held_fresh, held_pairs, held_drawn, answer_none, few_of, none_judged, some_judged, quiet}
use Rattle.wiring.proofs.wirings.Wiring.new.Goals as goal

pub returns-in_err-check-clause-valid : goal.returns-in_err-check-clause-valid
returns-in_err-check-clause-valid c =
    let w = drawn c.args.nodes c.args.layers c.args.links.now in
    let p = err_from_is_err_and c.from_residual.result c.from_residual.ensures.1 in
    rw (p.1, p.2) (λ n e. told_unjoined w n (sym (some_judged _ _ c.in_err-check.ensures) ∙ ap Some e))

pub invariant_of-result : goal.invariant_of-result
invariant_of-result c =
    let n = c.args.nodes in
    let k = c.args.layers in
    let ls = c.args.links.now in
    let held = c.renewed-links.result in
    let front = c.renewed-links.ensures.front in
    let none = none_judged _ c.in_ok-check.ensures in
    let fine = sound_valid (drawn n k ls) (sym none) in
    record {
      few = fine.few_nodes;
      room = few_of n k ls none;
      held = c.renewed-links.ensures.len;
      pairs = held_pairs ls held front n k;
      begun = held_fresh ls held front;
      sound = quiet _ (none ∙ ap topology_fault (sym (held_drawn ls held front n k)));
    }

pub returns : goal.returns
returns c =
    let n = c.args.nodes in
    let k = c.args.layers in
    let ls = c.args.links.now in
    let same = held_drawn ls c.renewed-links.result c.renewed-links.ensures.front n k in
    let none = none_judged _ c.in_ok-check.ensures in
    record {
      answer = answer_none _ (drawn n k ls) same none;
      valid = subst Valid (sym same) (sound_valid (drawn n k ls) (sym none));
    }
