use Rattle.std.proofs.Common.{◌≡◌, not, ◌∙◌, rules}
use Rattle.std.proofs.lemmas.Iterator.{YieldsList-from_slice}
use Rattle.std.proofs.lemmas.Iterator.Search.{position_from_yields_List}
use borrow.Author.Tests.{tests}
use Rattle.wiring.specs.declared.links.Link.{Link}
use Rattle.wiring.specs.Links.{ends_of}
use Rattle.wiring.specs.Soundness.{fine_link}
use Rattle.wiring.proofs.MakingLaws.{bad_place}
use Rattle.wiring.proofs.making.first_bad.Goals as goal

pub returns : goal.returns
returns c =
    let n = c.args.nodes in
    let ls = c.args.links.now in
    let at = position_from_yields_List (λ (l : Link). not (fine_link n (ends_of l))) _ _ c.position.result c.position.ensures.ran (YieldsList-from_slice ls (cc)) (λ x b q k. search (rules, tests)) in
    let same : c.map.result ≡ c.position.result = search rules in
    same ∙ at ∙ bad_place n ls
