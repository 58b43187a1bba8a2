-- Tests, choices and folds: what holds on every way holds of the outcome.
use Rattle.std.proofs.Common.{◌≡◌, ℕ, zero, suc, ◌+◌, ◌<◌, ◌≤◌, Bool, true, false, ◌⊎◌, List, [], ◌∷◌, Some, None, Option, sym, refl, ap, subst, inl, inr, arith}
use Rattle.std.proofs.lemmas.Bool.{cases_eq}
use Rattle.std.specs.List.{AllByRecursion}
use Rattle.wiring.specs.Lists.{range, fold}
use Rattle.plan_check.specs.Packets.{In, now', later}

pub on_test : {S : Type 0} (P : S → Type 0) (b : Bool) (x y : S) → (b ≡ true → P x) → (b ≡ false → P y) → P (elim b [ true ↦ x | false ↦ y ])
on_test P true x y f g = f refl
on_test P false x y f g = g refl

pub on_option : {S X : Type 0} (P : S → Type 0) (o : Option X) (x : S) (k : X → S) → (o ≡ None → P x) → ((y : X) → o ≡ Some y → P (k y)) → P (elim o [ None ↦ x | Some y ↦ k y ])
on_option P None x k f g = f refl
on_option P (Some y) x k f g = g y refl

pub fold_keeps : {S X : Type 0} (P : S → Type 0) (Q : X → Type 0) (f : S → X → S) → ((s : S) (x : X) → Q x → P s → P (f s x)) → (xs : List X) → AllByRecursion Q xs → (s : S) → P s → P (fold f s xs)
fold_keeps P Q f step [] q s p = p
fold_keeps P Q f step (x ∷ xs) q s p = fold_keeps P Q f step xs q.1 (f s x) (step s x q.0 p)

-- one step of a fold keeps P, gives Q at its own number, and keeps Q at every other number
pub record Gains {S : Type 0} (P : S → Type 0) (Q : ℕ → S → Type 0) (s r : S) (x : ℕ) : Type 0 where
  pub kept : P r
  pub here : Q x r
  pub there : (y : ℕ) → (y ≡ x → ⊥) → Q y s → Q y r

step_gains : {S : Type 0} (P : S → Type 0) (Q : ℕ → S → Type 0) (s r : S) (y x : ℕ) (xs : List ℕ) → Gains P Q s r x → Q y s ⊎ In y (x ∷ xs) → Q y r ⊎ In y xs
step_gains P Q s r y x xs g (inl h) = elim (cases_eq y x) [ inl e ↦ inl (subst (λ z. Q z r) (sym e) g.here) | inr ne ↦ inl (g.there y ne h) ]
step_gains P Q s r y x xs g (inr now') = inl g.here
step_gains P Q s r y x xs g (inr (later i)) = inr i

-- so after the fold Q holds at every number of the list, and where it held before
pub fold_gains : {S : Type 0} (P : S → Type 0) (Q : ℕ → S → Type 0) (R : ℕ → Type 0) (f : S → ℕ → S) → ((s : S) (x : ℕ) → R x → P s → Gains P Q s (f s x) x) → (xs : List ℕ) → AllByRecursion R xs → (s : S) → P s → (y : ℕ) → Q y s ⊎ In y xs → Q y (fold f s xs)
fold_gains P Q R f step [] q s p y (inl h) = h
fold_gains P Q R f step [] q s p y (inr h) = elim h [ ]
fold_gains P Q R f step (x ∷ xs) q s p y h =
    let g = step s x q.0 p in
    fold_gains P Q R f step xs q.1 (f s x) g.kept y (step_gains P Q s (f s x) y x xs g h)

in_range : (i a n : ℕ) → a ≤ i → i < a + n → In i (range a n)
in_range i a zero l h = absurd (omega arith)
in_range i a (suc n) l h = elim (cases_eq i a) [ inl e ↦ subst (λ z. In i (z ∷ range (suc a) n)) e now' | inr ne ↦ later (in_range i (suc a) n (omega arith) (omega arith)) ]

pub below_in_range : (i n : ℕ) → i < n → In i (range 0 n)
below_in_range i n h = in_range i 0 n (omega arith) (omega arith)

pub all_at : (Q : ℕ → Type 0) (x : ℕ) (xs : List ℕ) → AllByRecursion Q xs → In x xs → Q x
all_at Q x [] q i = elim i [ ]
all_at Q x (y ∷ xs) q now' = q.0
all_at Q x (y ∷ xs) q (later i) = all_at Q x xs q.1 i

pub all_from_in : (Q : ℕ → Type 0) (xs : List ℕ) → ((x : ℕ) → In x xs → Q x) → AllByRecursion Q xs
all_from_in Q [] f = tt
all_from_in Q (x ∷ xs) f = (f x now', all_from_in Q xs (λ y i. f y (later i)))

-- what a fold keeps from step to step it has at the end
pub fold_stays : {S X : Type 0} (P : S → Type 0) (f : S → X → S) → ((s : S) (x : X) → P s → P (f s x)) → (xs : List X) (s : S) → P s → P (fold f s xs)
fold_stays P f step [] s p = p
fold_stays P f step (x ∷ xs) s p = fold_stays P f step xs (f s x) (step s x p)

-- a choice that is known
pub at_none : {A R : Type 0} (o : Option A) (x : R) (f : A → R) → o ≡ None → ◌≡◌ {A = R} (elim o [ None ↦ x | Some a ↦ f a ]) x
at_none None x f e = refl
at_none (Some a) x f e = let z : ◌≡◌ {A = ℕ} 0 1 = cc in absurd (omega arith)

pub at_some : {A R : Type 0} (o : Option A) (x : R) (f : A → R) (a : A) → o ≡ Some a → ◌≡◌ {A = R} (elim o [ None ↦ x | Some a ↦ f a ]) (f a)
at_some {A} {R} (Some b) x f a e = let z : b ≡ a = cc in ap f z
at_some None x f a e = let z : ◌≡◌ {A = ℕ} 0 1 = cc in absurd (omega arith)
