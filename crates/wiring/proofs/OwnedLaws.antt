-- The channels into a node are the partners of its own channels, in the same order.
use Rattle.std.proofs.Common.{◌≡◌, ℕ, zero, suc, ◌+◌, ◌*◌, ◌<◌, ◌≤◌, Bool, true, false, cond, eqb, List, [], ◌∷◌, map, length, filter, sym, refl, ap, ◌∙◌, subst, ap₂, arith}
use Rattle.std.specs.List.{AllByRecursion}
use Rattle.std.proofs.lemmas.Bool.{eqb-true, eqb-false, cond_both}
use Rattle.std.proofs.lemmas.Bool.Decides.{nat_tests}
use Rattle.wiring.specs.Lists.{range, fold}
use Rattle.wiring.specs.Topologies.{Topology, Valid, channels, all_channels, partner, from, into}
use Rattle.wiring.specs.Owned.{own, inward, Ascends}
use Rattle.std.proofs.ByRecursion.{All-weaker, all_kept_by, kept_by_passes}
use Rattle.wiring.proofs.TopologyLaws.{range_below}

-- a fold may leave out what its step passes over
pub fold_kept : {S X : Type 0} (p : X → Bool) (f : S → X → S) → ((s : S) (x : X) → p x ≡ false → f s x ≡ s) → (xs : List X) (s : S) → fold f s xs ≡ fold f s (filter p xs)
fold_kept p f idle [] s = refl
fold_kept {S} {X} p f idle (x ∷ xs) s = go (p x) refl (fold_kept p f idle xs)
  where
    go : (b : Bool) → p x ≡ b → ((s : S) → fold f s xs ≡ fold f s (filter p xs)) → fold f (f s x) xs ≡ fold f s (cond b (x ∷ filter p xs) (filter p xs))
    go true e ih = ih (f s x)
    go false e ih = ap (λ (z : S). fold f z xs) (idle s x e) ∙ ih s

pub fold_map : {S X Y : Type 0} (f : S → Y → S) (g : X → Y) (xs : List X) (s : S) → fold f s (map g xs) ≡ fold (λ (s : S) (x : X). f s (g x)) s xs
fold_map f g [] s = refl
fold_map f g (x ∷ xs) s = fold_map f g xs (f s (g x))

partner_even : (j : ℕ) → partner (2 * j) ≡ suc (2 * j)
partner_even j = grind (arith, nat_tests)

partner_odd : (j : ℕ) → partner (suc (2 * j)) ≡ 2 * j
partner_odd j = grind (arith, nat_tests)

module _ (w : Topology) (ok : Valid w) (n : ℕ) where
  -- a link: its channels a and b
  pair_kept : (a b : ℕ) (K L : List ℕ) → partner a ≡ b → partner b ≡ a → (from w a ≡ into w a → ⊥) → K ≡ map partner L
      → cond (eqb (into w a) n) (a ∷ cond (eqb (into w b) n) (b ∷ K) K) (cond (eqb (into w b) n) (b ∷ K) K) ≡ map partner (cond (eqb (from w a) n) (a ∷ cond (eqb (from w b) n) (b ∷ L) L) (cond (eqb (from w b) n) (b ∷ L) L))
  pair_kept a b K L p q apart e = go (eqb (into w a) n) (eqb (into w b) n) (eqb (from w a) n) (eqb (from w b) n) (ap (λ c. eqb (from w c) n) p) (ap (λ c. eqb (from w c) n) q)
      (λ x y. apart (eqb-true _ _ x ∙ sym (ap (from w) p ∙ eqb-true _ _ y)))
    where
      go : (x y f g : Bool) → x ≡ g → y ≡ f → (f ≡ true → g ≡ true → ⊥) → cond x (a ∷ cond y (b ∷ K) K) (cond y (b ∷ K) K) ≡ map partner (cond f (a ∷ cond g (b ∷ L) L) (cond g (b ∷ L) L))
      go x y true true h k never = absurd (never refl refl)
      go x y true false h k never = rw (h, k) (ap₂ ◌∷◌ (sym p) e)
      go x y false true h k never = rw (h, k) (ap₂ ◌∷◌ (sym q) e)
      go x y false false h k never = rw (h, k) e

  pairs_kept : (j k : ℕ) → j + k ≡ length w.links → filter (λ c. eqb (into w c) n) (range (2 * j) (2 * k)) ≡ map partner (filter (λ c. eqb (from w c) n) (range (2 * j) (2 * k)))
  pairs_kept j zero h = refl
  pairs_kept j (suc k) h = subst (λ z. filter (λ c. eqb (into w c) n) (range (2 * j) z) ≡ map partner (filter (λ c. eqb (from w c) n) (range (2 * j) z))) (two k)
      (pair_kept (2 * j) (suc (2 * j)) _ _ (partner_even j) (partner_odd j) (ok.ends (2 * j) (omega arith)).1
      (subst (λ z. filter (λ c. eqb (into w c) n) (range z (2 * k)) ≡ map partner (filter (λ c. eqb (from w c) n) (range z (2 * k)))) (sym (two j)) (pairs_kept (suc j) k (omega arith))))
    where
      two : (k : ℕ) → suc (suc (2 * k)) ≡ 2 * suc k
      two k = omega arith

  pub inward_partners : inward w n ≡ map partner (own w n)
  inward_partners = pairs_kept 0 (length w.links) (omega arith)

  -- a fold over all channels whose step passes over those that do not end at n
  pub fold_inward : {S : Type 0} (f : S → ℕ → S) → ((s : S) (c : ℕ) → (into w c ≡ n → ⊥) → f s c ≡ s) → (s : S) → fold f s (all_channels w) ≡ fold f s (map partner (own w n))
  fold_inward {S} f idle s = fold_kept (λ c. eqb (into w c) n) f (λ s c e. idle s c (eqb-false _ _ e)) (all_channels w) s ∙ ap (fold f s) inward_partners

-- what stands in the two lists
both_hold : {X : Type 0} (P Q : X → Type 0) (xs : List X) → AllByRecursion P xs → AllByRecursion Q xs → AllByRecursion (λ x. P x × Q x) xs
both_hold P Q [] p q = tt
both_hold P Q (x ∷ xs) p q = ((p.0, q.0), both_hold P Q xs p.1 q.1)

pub own_starts : (w : Topology) (n : ℕ) → AllByRecursion (λ c. (c < channels w) × (from w c ≡ n)) (own w n)
own_starts w n = both_hold (λ c. c < channels w) (λ c. from w c ≡ n) (own w n) (all_kept_by (λ c. eqb (from w c) n) (λ c. c < channels w) (all_channels w) (range_below (channels w)))
    (All-weaker (λ c. eqb (from w c) n ≡ true) (λ c. from w c ≡ n) (λ c e. eqb-true _ _ e) (own w n) (kept_by_passes (λ c. eqb (from w c) n) (all_channels w)))

-- a filter of a range ascends
ascends_lower : (a b : ℕ) (xs : List ℕ) → a ≤ b → Ascends b xs → Ascends a xs
ascends_lower a b [] l h = tt
ascends_lower a b (x ∷ xs) l h = (let k = h.0 in omega arith, h.1)

kept_ascends : (p : ℕ → Bool) (i n : ℕ) → Ascends i (filter p (range i n))
kept_ascends p i zero = tt
kept_ascends p i (suc n) = let r = kept_ascends p (suc i) n in cond_both (p i) (i ∷ filter p (range (suc i) n)) (filter p (range (suc i) n)) (Ascends i) (λ e. (omega arith, r)) (λ e. ascends_lower i (suc i) _ (omega arith) r)

pub own_ascends : (w : Topology) (n : ℕ) → Ascends 0 (own w n)
own_ascends w n = kept_ascends (λ c. eqb (from w c) n) 0 (channels w)

pub partners_ascend : (w : Topology) → Valid w → (n : ℕ) → Ascends 0 (map partner (own w n))
partners_ascend w ok n = subst (Ascends 0) (inward_partners w ok n) (kept_ascends (λ c. eqb (into w c) n) 0 (channels w))
