use Rattle.std.proofs.Common.{Some, sym, ap, ◌∙◌, subst, refl, lit<, MatchResult}
use Rattle.std.proofs.lemmas.Result.{err_from_is_err_and}
use Rattle.wiring.specs.Soundness.{sound_answer, LowestTold}
use Rattle.wiring.specs.Topologies.{Topology, Valid}
use Rattle.wiring.specs.Wirings.{topology}
use Rattle.wiring.proofs.MakingLaws.{none_judged, some_judged}
use Rattle.sheet.specs.Contents.{wiring_letters}
use Rattle.sheet.proofs.LineLaws.{line_after}
use Rattle.sheet.proofs.ContentsLaws.{fine, body_there}
use Rattle.sheet.proofs.WiringLaws.{few_links, wiring_is, read_is, never_unjoined}
use Rattle.sheet.proofs.wirings.read_wiring.Goals as goal

pub returns-in_err-check_contents : goal.returns-in_err-check_contents
returns-in_err-check_contents c =
    let p = err_from_is_err_and c.from_residual.result c.from_residual.ensures.1 in
    let told = some_judged _ _ c.in_err-check_contents.ensures.answer in
    rw (p.1, p.2) (record { answer = rw (← told) refl; valid = λ n e. absurd (never_unjoined wiring_letters c.args.bytes.now n (sym told ∙ ap Some e)) })

pub whole_wiring-requires : goal.whole_wiring-requires
whole_wiring-requires c = few_links c.args.bytes.now (sym (none_judged _ c.in_ok-check_contents.ensures.answer)) c.new-reader.ensures.sheet c.new-reader.ensures.rest c.body-links.ensures.answer

pub returns : goal.returns
returns c =
    let s = c.args.bytes.now in
    let none = sym (none_judged _ c.in_ok-check_contents.ensures.answer) in
    let f = fine wiring_letters s none in
    let second = c.body-links.ensures.rest ∙ line_after s wiring_letters 0 c.new-reader.ensures.rest f.whole.room (lit< tt) in
    let third = c.body.ensures.rest ∙ line_after s wiring_letters 1 second f.whole.room (lit< tt) in
    let sheet-2 = c.body-links.ensures.sheet ∙ c.new-reader.ensures.sheet in
    let sheet-3 = c.body.ensures.sheet ∙ sheet-2 in
    let same = wiring_is s _ _ _ _ _
    (c.body-links.ensures.answer ∙ body_there wiring_letters s f 0 (lit< tt) c.new-reader.ensures.sheet c.new-reader.ensures.rest)
    c.byte_at-nodes.ensures
    (c.body.ensures.answer ∙ body_there wiring_letters s f 1 (lit< tt) sheet-2 second)
    c.byte_at-layers.ensures
    (c.body-2.ensures.answer ∙ body_there wiring_letters s f 2 (lit< tt) sheet-3 third) in
    record {
      answer = c.whole_wiring.ensures.answer ∙ ap sound_answer same ∙ read_is s none;
      valid = subst (λ (w : Topology). MatchResult c.whole_wiring.result (λ v. Valid (topology v)) (λ f. LowestTold w f)) same c.whole_wiring.ensures.valid;
    }
