-- What a fold or a search along a range of numbers finds.
use Rattle.std.proofs.Common.{◌≡◌, ℕ, zero, suc, ◌+◌, ◌<◌, ◌≤◌, ◌⊎◌, List, [], ◌∷◌, Some, None, Option, refl, ap, ◌∙◌, subst, inl, inr, ⊎_elim, arith}
use Rattle.std.proofs.lemmas.Bool.{cases_eq}
use Rattle.wiring.specs.Lists.{range, fold, first_some}

pub some≢none : {X : Type 0} (x : X) → Some x ≡ None → ⊥
some≢none x q = let z : ◌≡◌ {A = ℕ} 0 1 = cc in omega arith

module _ {S : Type 0} (f : S → ℕ → S) (Q : S → Type 0) where
  pub fold_keeps : ((s : S) (x : ℕ) → Q s → Q (f s x)) → (xs : List ℕ) (s : S) → Q s → Q (fold f s xs)
  fold_keeps k [] s q = q
  fold_keeps k (x ∷ xs) s q = fold_keeps k xs (f s x) (k s x q)

  -- what a fold along a range has, it began with or took up at some number
  pub fold_cases : (P : ℕ → Type 0) → ((s : S) (x : ℕ) → Q (f s x) → Q s ⊎ P x) → (i n : ℕ) (s : S) → Q (fold f s (range i n)) → Q s ⊎ ((k : ℕ) × (i ≤ k) × (k < i + n) × P k)
  fold_cases P c i zero s q = inl q
  fold_cases P c i (suc n) s q = ⊎_elim (λ h. ⊎_elim inl (λ p. inr (i, omega arith, omega arith, p)) (c s i h)) (λ h. inr (h.0, omega arith, omega arith, h.3)) (fold_cases P c (suc i) n (f s i) q)

  pub fold_adds : ((s : S) (x : ℕ) → Q s → Q (f s x)) → (k : ℕ) → ((s : S) → Q (f s k)) → (i n : ℕ) (s : S) → i ≤ k → k < i + n → Q (fold f s (range i n))
  fold_adds keep k a i zero s l h = absurd (omega arith)
  fold_adds keep k a i (suc n) s l h = ⊎_elim (λ e. fold_keeps keep (range (suc i) n) (f s i) (subst (λ (x : ℕ). Q (f s x)) e (a s))) (λ ne. fold_adds keep k a (suc i) n (f s i) (omega arith) (omega arith)) (cases_eq k i)

module _ {Y : Type 0} (f : ℕ → Option Y) where
  pub all_none : (i n : ℕ) → first_some f (range i n) ≡ None → (k : ℕ) → i ≤ k → k < i + n → f k ≡ None
  all_none i zero q k l h = absurd (omega arith)
  all_none i (suc n) q k l h = go (f i) refl q (all_none (suc i) n)
    where
      go : (o : Option Y) → f i ≡ o → ◌≡◌ {A = Option Y} (elim o [ Some y ↦ Some y | None ↦ first_some f (range (suc i) n) ]) None → (first_some f (range (suc i) n) ≡ None → (k : ℕ) → suc i ≤ k → k < suc i + n → f k ≡ None) → f k ≡ None
      go (Some y) e r ih = absurd (some≢none y r)
      go None e r ih = ⊎_elim (λ m. ap f m ∙ e) (λ ne. ih r k (omega arith) (omega arith)) (cases_eq k i)

  pub none_found : (i n : ℕ) → ((k : ℕ) → i ≤ k → k < i + n → f k ≡ None) → first_some f (range i n) ≡ None
  none_found i zero h = refl
  none_found i (suc n) h = rw (h i (omega arith) (omega arith)) (none_found (suc i) n (λ k l m. h k (omega arith) (omega arith)))
