use Rattle.std.proofs.Common.{◌≡◌, ℕ, ◌/◌, List, length, take, ap, ◌∙◌, subst, MatchResult}
use Rattle.wiring.specs.Links.{drawn}
use Rattle.wiring.specs.Soundness.{sound_answer, LowestTold}
use Rattle.wiring.specs.Topologies.{Topology, Valid}
use Rattle.wiring.specs.Wirings.{topology}
use Rattle.sheet.specs.Wirings.{wired}
use Rattle.sheet.proofs.wirings.whole_wiring.Goals as goal

pub returns : goal.returns
returns c =
    let n = c.args.nodes in
    let k = c.args.layers in
    let s = c.args.body.now in
    let same : drawn n k (take (length s / 2) c.read_links-links.result) ≡ wired n k s = ap (λ (es : List (ℕ × ℕ)). record { nodes = n; layers = k; links = es }) c.read_links-links.ensures.front in
    record {
      answer = c.new.ensures.answer ∙ ap sound_answer same;
      valid = subst (λ (w : Topology). MatchResult c.new.result (λ v. Valid (topology v)) (λ f. LowestTold w f)) same c.new.ensures.valid;
    }
