use Rattle.std.proofs.Common.{◌≡◌, ℕ, Bool, not, List, length, get_or, is_some, None, Option, refl, ap, ◌∙◌, rules}
use Rattle.std.proofs.lemmas.List.{length-replicate, take-replicate}
use Rattle.wiring.specs.Lists.{range, first_that}
use Rattle.wiring.proofs.RoundLaws.{first_place}
use Rattle.wiring.proofs.joining.Graph.first_unjoined.Goals as goal

abbrev lacks : List (Option ℕ) → ℕ → Bool
lacks ranks i = not (is_some (get_or ranks i None))

pub find_levels-requires : goal.find_levels-requires
find_levels-requires c = let g = c.args.self.now in take-replicate g.nodes 64 None g.few

pub returns : goal.returns
returns c =
    let g = c.args.self.now in
    let ranks = c.find_levels.new.ranks in
    let long : length ranks ≡ g.nodes = c.find_levels.auto.ranks ∙ ap length (take-replicate g.nodes 64 None g.few) ∙ length-replicate g.nodes None in
    let same : c.map.result ≡ c.first_gap.result = search rules in
    same ∙ c.first_gap.ensures
    ∙ first_place (λ (o : Option ℕ). not (is_some o)) None (lacks ranks) ranks (λ k l. refl)
    ∙ ap (λ n. first_that (lacks ranks) (range 0 n)) long
    ∙ ap (λ (s : List (Option ℕ)). first_that (lacks s) (range 0 g.nodes)) c.find_levels.ensures
