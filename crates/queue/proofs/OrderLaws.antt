-- The order of entries, from the laws of costs alone: total, and as the library's heaps have it.
use Rattle.std.proofs.Common.{◌≡◌, ℕ, ◌+◌, ◌*◌, ◌<◌, ◌≤◌, Bool, true, false, cond, ◌⊎◌, List, get_or, refl, sym, ap, ◌∙◌, subst, inl, inr, ⊎_elim, arith}
use Rattle.std.specs.declared.cmp.Ordering.{Ordering}
use Rattle.std.specs.declared.cmp.Ordering.TheVariants.{Less, Equal, Greater}
use Rattle.std.specs.Ordering.{match_ordering, nat_cmp, is_le, is_lt, ordering_reverse, ordering_then}
use Rattle.std.specs.Cmp.{IsStrictWeakOrder, IsTotalOrder}
use Rattle.std.specs.BinaryHeap.{lt_by_cmp}
use Rattle.std.specs.BinaryHeap.Sift.{ComparesAt, IsGreaterChild}
use Rattle.std.proofs.HeapSift.{ranks, rise_begins, rise_rests, rise_tops, sink_begins, sink_ends}
use Rattle.std.proofs.lemmas.List.Sorted.{IsPermutation-refl}
use Rattle.std.proofs.lemmas.Bool.{both_ways, cases_Bool, cases_eq}
use Rattle.std.proofs.lemmas.Bool.Decides.{nat_tests}
use Rattle.std.proofs.lemmas.Cmp.{back_total, then_total, on_total, nat_cmp_total, tied_itself}
use Rattle.std.proofs.lemmas.List.Sorted.{IsStrictWeakOrder-flip}
use Rattle.cost.specs.Order.{at_most}
use Rattle.cost.proofs.OrderLaws.{apart}
use Rattle.queue.specs.declared.entries.Entry.{Entry}
use Rattle.queue.specs.Order.{tie, by_tie, sooner, later}

-- what the tie keeps: what follows uses no more of it
tie_is : (a b : ℕ) → nat_cmp a b ≡ by_tie a b
tie_is a b = grind (arith, nat_tests)

tie_total : IsTotalOrder by_tie
tie_total = subst IsTotalOrder (λ i a b. tie_is a b i) nat_cmp_total

tie_apart : (a b : ℕ) → tie a b ≡ false → tie b a ≡ false → a ≡ b
tie_apart a b h k = grind (arith, nat_tests)

less_where : (p q : Bool) → is_lt (cond p Less (cond q Greater Equal)) ≡ p
less_where true q = refl
less_where false true = refl
less_where false false = refl

module _ {K : Type 0} (cmp : K → K → Ordering) where
  pub later_is : (a b : Entry K) → lt_by_cmp (later cmp) a b ≡ sooner cmp b a
  later_is a b = by (cmp b.cost a.cost)
    where
      by : (o : Ordering) → is_lt (ordering_then o (by_tie b.key a.key)) ≡ match_ordering o true (tie b.key a.key) false
      by Less = refl
      by Equal = less_where (tie b.key a.key) (tie a.key b.key)
      by Greater = refl

  -- what a test of the entries at a and b says of the order turned round
  pub compared : (xs : List (Entry K)) (a b : ℕ) (r : Bool) → ((d : Entry K) → r ≡ sooner cmp (get_or xs a d) (get_or xs b d)) → ComparesAt (later cmp) xs b a r
  compared xs a b r test d = later_is (get_or xs b d) (get_or xs a d) ∙ sym (test d)

  module _ (order : IsTotalOrder cmp) where
    pub later_total : IsTotalOrder (later cmp)
    later_total = back_total (then_total (on_total (λ e. e.cost) order) (on_total (λ e. e.key) tie_total))

    pub sooner_ranks : IsStrictWeakOrder (sooner cmp)
    sooner_ranks = subst IsStrictWeakOrder (λ i a b. later_is b a i) (IsStrictWeakOrder-flip (lt_by_cmp (later cmp)) (ranks later_total))

    -- `sooner` said by at-most: a costs no more than b, and either b costs more or the keys decide
    pub sooner_is : (a b : Entry K) → sooner cmp a b ≡ cond (at_most cmp a.cost b.cost) (cond (at_most cmp b.cost a.cost) (tie a.key b.key) true) false
    sooner_is a b = by (cmp a.cost b.cost) (cmp b.cost a.cost) (order.antisymm b.cost a.cost)
      where
        by : (o p : Ordering) → p ≡ ordering_reverse o → match_ordering o true (tie a.key b.key) false ≡ cond (is_le o) (cond (is_le p) (tie a.key b.key) true) false
        by Less p e = ap (λ q. cond (is_le q) (tie a.key b.key) true) (sym e)
        by Equal p e = ap (λ q. cond (is_le q) (tie a.key b.key) true) (sym e)
        by Greater p e = refl

    -- a does not come sooner than b: b costs no more, and where neither costs less a has not the key
    pub not_sooner : (a b : Entry K) → sooner cmp a b ≡ false → (at_most cmp b.cost a.cost ≡ true) × (at_most cmp a.cost b.cost ≡ true → tie a.key b.key ≡ false)
    not_sooner a b h = by (cmp a.cost b.cost) (cmp b.cost a.cost) (order.antisymm b.cost a.cost) h
      where
        by : (o p : Ordering) → p ≡ ordering_reverse o → match_ordering o true (tie a.key b.key) false ≡ false → (is_le p ≡ true) × (is_le o ≡ true → tie a.key b.key ≡ false)
        by Less p e h = absurd (both_ways true h refl)
        by Equal p e h = (ap is_le e, λ _. h)
        by Greater p e h = (ap is_le e, λ k. absurd (both_ways false refl k))

    -- `identical` is the law of that name of a kind of cost
    module _ (identical : (x y : K) → cmp x y ≡ Equal → x ≡ y) where
      pub neither_sooner : (a b : Entry K) → sooner cmp a b ≡ false → sooner cmp b a ≡ false → a ≡ b
      neither_sooner a b h k =
          let l = not_sooner a b h in
          let m = not_sooner b a k in
          let p = apart cmp order identical a.cost b.cost m.0 l.0 in
          let q = tie_apart a.key b.key (l.1 m.0) (m.1 l.0) in
          λ i. record { cost = p i; key = q i }

      pub one_of_three : (a b : Entry K) → (sooner cmp a b ≡ true) ⊎ ((a ≡ b) ⊎ (sooner cmp b a ≡ true))
      one_of_three a b = by (cases_Bool (sooner cmp a b)) (cases_Bool (sooner cmp b a))
        where
          by : (sooner cmp a b ≡ true) ⊎ (sooner cmp a b ≡ false) → (sooner cmp b a ≡ true) ⊎ (sooner cmp b a ≡ false) → (sooner cmp a b ≡ true) ⊎ ((a ≡ b) ⊎ (sooner cmp b a ≡ true))
          by (inl t) s = inl t
          by (inr f) (inl t) = inr (inr t)
          by (inr f) (inr e) = inr (inl (neither_sooner a b f e))

    -- the same of the other way round, where the entry at a comes sooner
    pub won : (xs : List (Entry K)) (a b : ℕ) → ((d : Entry K) → true ≡ sooner cmp (get_or xs a d) (get_or xs b d)) → ComparesAt (later cmp) xs a b false
    won xs a b test d = (ranks later_total).one_way (get_or xs b d) (get_or xs a d) (compared xs a b true test d)

    -- of the children c and o of p, c comes first where o, if it is there, does not come sooner
    pub first_of_two : (xs : List (Entry K)) (p c o n : ℕ) → ((d : Entry K) → o < n → lt_by_cmp (later cmp) (get_or xs c d) (get_or xs o d) ≡ false) → p * 2 + 1 ≤ c → c ≤ p * 2 + 2 → c + o ≡ p * 4 + 3 → IsGreaterChild (later cmp) xs p c n
    unfolding IsGreaterChild
    first_of_two xs p c o n test from to both = λ k d a b l. ⊎_elim
        (λ (e : k ≡ c). ap (λ m. lt_by_cmp (later cmp) (get_or xs c d) (get_or xs m d)) e ∙ ap is_lt (tied_itself later_total (get_or xs c d)))
        (λ u. let e : k ≡ o = omega arith in ap (λ m. lt_by_cmp (later cmp) (get_or xs c d) (get_or xs m d)) e ∙ test d (omega arith))
        (cases_eq k c)

-- what `sift_up` and `sift_down` need but for their steps
pub ruleset rising = (rise_begins, rise_rests, rise_tops, compared, IsPermutation-refl)

pub ruleset sinking = (sink_begins, sink_ends, IsPermutation-refl)
