use Rattle.std.proofs.Common.{◌≡◌, ℕ, ◌+◌, ◌<◌, List, ◌++◌, length, get_or, take, set, sym, ap, ◌∙◌, ⊎_elim, arith}
use Rattle.std.proofs.lemmas.List.{get_or-set_same, get_or-set_other}
use Rattle.std.proofs.lemmas.Bool.{cases_eq}
use Rattle.wiring.specs.Owned.{own, laid}
use Rattle.wiring.specs.Wirings.{topology}
use Rattle.wiring.proofs.LaidLaws.{laid_few, laid_longer, laid_more, few_channels}
use Rattle.wiring.proofs.laying.list_all.Goals as goal

pub list_own-requires : goal.list_own-requires
list_own-requires c =
    let l = c.loop-node in
    let w = topology c.args.wiring.now in
    let here = l.invariant.0 l.node (omega arith) in
    let few = laid_few w (l.node + 1) in
    let more = laid_longer w l.node in
    let most = few_channels c.args.wiring.now in
    omega arith

pub loop-node-preserved : goal.loop-node-preserved
loop-node-preserved c =
    let l = c.loop-node in
    let w = topology c.args.wiring.now in
    let below = c.loop-node-test.true in
    let here = l.invariant.0 l.node (omega arith) in
    let end : c.list_own.result ≡ length (laid w (l.node + 1)) = c.list_own.ensures.end ∙ ap (λ b. b + length (own w l.node)) here ∙ sym (laid_longer w l.node) in
    let room : l.node + 1 < length l.begins = omega arith in (
      λ i h. ⊎_elim
          (λ (e : i ≡ l.node + 1). ap (λ j. get_or (set l.begins (l.node + 1) c.list_own.result) j 0) e ∙ get_or-set_same l.begins (l.node + 1) _ 0 room ∙ end ∙ ap (λ j. length (laid w j)) (sym e))
          (λ (e : i ≡ l.node + 1 → ⊥). get_or-set_other l.begins (l.node + 1) i _ 0 e ∙ l.invariant.0 i (omega arith))
          (cases_eq i (l.node + 1)),
      ap (λ k. take k c.list_own.new.held) (sym end)
          ∙ c.list_own.ensures.after
          ∙ ap (λ (xs : List ℕ). xs ++ own w l.node) (ap (λ k. take k l.held) here ∙ l.invariant.1)
          ∙ sym (laid_more w l.node),
    )
