-- At-most is a total order for each kind of cost: by the laws of `Ord`, and by `Cost`'s own that equal costs are identical.
use Rattle.std.proofs.Common.{◌≡◌, true, false, refl, sym, ap, ◌∙◌}
use Rattle.std.specs.declared.cmp.Ordering.{Ordering}
use Rattle.std.specs.declared.cmp.Ordering.TheVariants.{Less, Equal, Greater}
use Rattle.std.specs.Ordering.{is_le, is_gt, ordering_reverse}
use Rattle.std.specs.Cmp.{IsTotalOrder}
use Rattle.std.proofs.lemmas.Bool.{both_ways}
use Rattle.std.proofs.lemmas.Cmp.{tied_itself, upto}
use Rattle.cost.specs.Order.{at_most}

not_gt : (r : Ordering) → is_le r ≡ true → is_gt r ≡ false
not_gt Less h = refl
not_gt Equal h = refl
not_gt Greater h = absurd (both_ways false refl h)

le : (r : Ordering) → is_gt r ≡ false → is_le r ≡ true
le Less h = refl
le Equal h = refl
le Greater h = absurd (both_ways true h refl)

le_reversed : (r : Ordering) → is_le r ≡ false → is_le (ordering_reverse r) ≡ true
le_reversed Less h = absurd (both_ways true h refl)
le_reversed Equal h = refl
le_reversed Greater h = refl

le_both : (r : Ordering) → is_le r ≡ true → is_le (ordering_reverse r) ≡ true → r ≡ Equal
le_both Less h k = absurd (both_ways false refl k)
le_both Equal h k = refl
le_both Greater h k = absurd (both_ways false refl h)

module _ {K : Type 0} (cmp : K → K → Ordering) (order : IsTotalOrder cmp) where
  pub itself : (x : K) → at_most cmp x x ≡ true
  itself x = ap is_le (tied_itself order x)

  pub chain : (x y z : K) → at_most cmp x y ≡ true → at_most cmp y z ≡ true → at_most cmp x z ≡ true
  chain x y z h k = le (cmp x z) (upto order x y z (not_gt (cmp x y) h) (not_gt (cmp y z) k))

  pub total : (x y : K) → at_most cmp x y ≡ false → at_most cmp y x ≡ true
  total x y h = ap is_le (order.antisymm y x) ∙ le_reversed (cmp x y) h

  -- `identical` is the law of that name of a kind of cost
  pub apart : (identical : (x y : K) → cmp x y ≡ Equal → x ≡ y) → (x y : K) → at_most cmp x y ≡ true → at_most cmp y x ≡ true → x ≡ y
  apart identical x y h k = identical x y (le_both (cmp x y) h (ap is_le (sym (order.antisymm y x)) ∙ k))
