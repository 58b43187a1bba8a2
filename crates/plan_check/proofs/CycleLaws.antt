-- Cycles of dependencies: `acyclic` is exact, ranks, and what one more dependency does.
use Rattle.std.proofs.Common.{◌≡◌, ℕ, zero, suc, ◌-◌, ◌<◌, ◌≤◌, Bool, true, false, cond, ◌&&◌, ◌||◌, eqb, ◌⊎◌, List, [], ◌∷◌, ◌++◌, length, sym, refl, ap, ◌∙◌, subst, inl, inr, ⊎_elim, arith}
use Rattle.std.specs.List.{AllByRecursion}
use Rattle.std.proofs.lemmas.Bool.{or_cases, or_left, or_right, and_parts, and_from, eqb-true, eq-eqb, false≢true, true≢false, cases_eq}
use Rattle.plan_check.specs.Cycles.{Linked, Cycle, Deps, has, leaves, inner, peel, none_left, acyclic}
use Rattle.plan_check.specs.Routes.{Apart, Distinct}

abbrev pub Has : Deps → ℕ → ℕ → Type 0
Has D c e = has c e D ≡ true

-- c is e, or channels lead from c to e
abbrev pub Leads : Deps → ℕ → ℕ → Type 0
Leads D c e = (c ≡ e) ⊎ ((cs : List ℕ) × Linked (Has D) c cs e)

-- Membership.

pub has_cases : (p : ℕ × ℕ) (D : Deps) (c e : ℕ) → Has (p ∷ D) c e → ((p.0 ≡ c) × (p.1 ≡ e)) ⊎ Has D c e
has_cases p D c e h = ⊎_elim (λ k. let (a, b) = and_parts (eqb p.0 c) (eqb p.1 e) k in inl (eqb-true _ _ a, eqb-true _ _ b)) inr (or_cases (eqb p.0 c && eqb p.1 e) (has c e D) h)

pub has_here : (p : ℕ × ℕ) (D : Deps) (c e : ℕ) → p.0 ≡ c → p.1 ≡ e → Has (p ∷ D) c e
has_here p D c e a b = or_left _ (has c e D) (and_from (eqb p.0 c) (eqb p.1 e) (eq-eqb _ _ a) (eq-eqb _ _ b))

pub has_later : (p : ℕ × ℕ) (D : Deps) (c e : ℕ) → Has D c e → Has (p ∷ D) c e
has_later p D c e h = or_right (eqb p.0 c && eqb p.1 e) (has c e D) h

-- Chains.

pub linked_map : (R S : ℕ → ℕ → Type 0) → ((c e : ℕ) → R c e → S c e) → (c : ℕ) (cs : List ℕ) (z : ℕ) → Linked R c cs z → Linked S c cs z
linked_map R S f c [] z r = f c z r
linked_map R S f c (x ∷ xs) z r = (f c x r.0, linked_map R S f x xs z r.1)

pub linked_join : (R : ℕ → ℕ → Type 0) (c : ℕ) (cs : List ℕ) (x : ℕ) (xs : List ℕ) (z : ℕ) → Linked R c cs x → Linked R x xs z → Linked R c (cs ++ x ∷ xs) z
linked_join R c [] x xs z r s = (r, s)
linked_join R c (y ∷ ys) x xs z r s = (r.0, linked_join R y ys x xs z r.1 s)

pub cycle_map : (R S : ℕ → ℕ → Type 0) → ((c e : ℕ) → R c e → S c e) → Cycle R → Cycle S
cycle_map R S f y = (y.0, y.1, linked_map R S f y.0 y.1 y.0 y.2)

pub leads_one : (D : Deps) (c e : ℕ) → Has D c e → Leads D c e
leads_one D c e h = inr ([], h)

pub leads_step : (D : Deps) (c x e : ℕ) → Has D c x → Leads D x e → Leads D c e
leads_step D c x e h (inl q) = inr ([], subst (λ (y : ℕ). Has D c y) q h)
leads_step D c x e h (inr l) = inr (x ∷ l.0, (h, l.1))

pub leads_join : (D : Deps) (c x e : ℕ) → Leads D c x → Leads D x e → Leads D c e
leads_join D c x e (inl q) l = subst (λ (y : ℕ). Leads D y e) (sym q) l
leads_join D c x e (inr k) (inl q) = inr (k.0, subst (λ (y : ℕ). Linked (Has D) c k.0 y) q k.1)
leads_join D c x e (inr k) (inr l) = inr (k.0 ++ x ∷ l.0, linked_join (Has D) c k.0 x l.0 e k.1 l.1)

pub leads_map : (D E : Deps) → ((c e : ℕ) → Has D c e → Has E c e) → (c e : ℕ) → Leads D c e → Leads E c e
leads_map D E f c e (inl q) = inl q
leads_map D E f c e (inr l) = inr (l.0, linked_map (Has D) (Has E) f c l.0 e l.1)

pub cycle_from : (D : Deps) (c e : ℕ) → Has D c e → Leads D e c → Cycle (Has D)
cycle_from D c e h (inl q) = (c, [], subst (λ (y : ℕ). Has D c y) q h)
cycle_from D c e h (inr l) = (c, e ∷ l.0, (h, l.1))

-- One more dependency.

through : (D : Deps) (c e x : ℕ) (xs : List ℕ) (z : ℕ) → Linked (Has ((c, e) ∷ D)) x xs z → Linked (Has D) x xs z ⊎ (Leads D x c × Leads D e z)
through D c e x [] z r = ⊎_elim (λ k. inr (inl (sym k.0), inl k.1)) inl (has_cases (c, e) D x z r)
through D c e x (y ∷ ys) z r = go (has_cases (c, e) D x y r.0) (through D c e y ys z r.1)
  where
    go : ((c ≡ x) × (e ≡ y)) ⊎ Has D x y → Linked (Has D) y ys z ⊎ (Leads D y c × Leads D e z) → (Has D x y × Linked (Has D) y ys z) ⊎ (Leads D x c × Leads D e z)
    go (inl k) (inl l) = inr (inl (sym k.0), inr (ys, subst (λ (u : ℕ). Linked (Has D) u ys z) (sym k.1) l))
    go (inl k) (inr l) = inr (inl (sym k.0), l.1)
    go (inr h) (inl l) = inl (h, l)
    go (inr h) (inr l) = inr (leads_step D x y c h l.0, l.1)

pub cycle_one_more : (D : Deps) (c e : ℕ) → Cycle (Has ((c, e) ∷ D)) → Cycle (Has D) ⊎ Leads D e c
cycle_one_more D c e y = ⊎_elim (λ l. inl (y.0, y.1, l)) (λ l. inr (leads_join D e y.0 c l.1 l.0)) (through D c e y.0 y.1 y.0 y.2)

pub cycle_closed : (D : Deps) (c e : ℕ) → Leads D e c → Cycle (Has ((c, e) ∷ D))
cycle_closed D c e l = cycle_from ((c, e) ∷ D) c e (has_here (c, e) D c e refl refl) (leads_map D ((c, e) ∷ D) (λ x y h. has_later (c, e) D x y h) e c l)

-- Ranks.

linked_rises : (R : ℕ → ℕ → Type 0) (rank : ℕ → ℕ) → ((c e : ℕ) → R c e → rank c < rank e) → (c : ℕ) (cs : List ℕ) (z : ℕ) → Linked R c cs z → rank c < rank z
linked_rises R rank f c [] z r = f c z r
linked_rises R rank f c (x ∷ xs) z r = let a = f c x r.0 in let b = linked_rises R rank f x xs z r.1 in omega arith

pub no_cycle_by_rank : (R : ℕ → ℕ → Type 0) (rank : ℕ → ℕ) → ((c e : ℕ) → R c e → rank c < rank e) → Cycle R → ⊥
no_cycle_by_rank R rank f y = let a = linked_rises R rank f y.0 y.1 y.0 y.2 in omega arith

-- How often channels that depend on nothing can be taken away before c is one of them.
abbrev pub height : ℕ → Deps → ℕ → ℕ
height zero D c = 0
height (suc n) D c = cond (leaves c D) (suc (height n (inner D D) c)) 0

leaves_of : (D : Deps) (c e : ℕ) → Has D c e → leaves c D ≡ true
leaves_of [] c e h = absurd (false≢true h)
leaves_of (p ∷ ps) c e h = ⊎_elim (λ k. or_left _ (leaves c ps) (eq-eqb _ _ k.0)) (λ k. or_right (eqb p.0 c) _ (leaves_of ps c e k)) (has_cases p ps c e h)

inner_keeps : (all ps : Deps) (c e : ℕ) → leaves e all ≡ true → Has ps c e → Has (inner all ps) c e
inner_keeps all [] c e l h = h
inner_keeps all (p ∷ ps) c e l h = go (leaves p.1 all) refl (inner_keeps all ps c e l) (has_cases p ps c e h)
  where
    go : (b : Bool) → leaves p.1 all ≡ b → (Has ps c e → Has (inner all ps) c e) → ((p.0 ≡ c) × (p.1 ≡ e)) ⊎ Has ps c e → Has (elim b [ true ↦ p ∷ inner all ps | false ↦ inner all ps ]) c e
    go true q ih (inl k) = has_here p (inner all ps) c e k.0 k.1
    go true q ih (inr k) = has_later p (inner all ps) c e (ih k)
    go false q ih (inl k) = absurd (false≢true (sym q ∙ ap (λ x. leaves x all) k.1 ∙ l))
    go false q ih (inr k) = ih k

inner_within : (all ps : Deps) (c e : ℕ) → Has (inner all ps) c e → Has ps c e
inner_within all [] c e h = h
inner_within all (p ∷ ps) c e h = go (leaves p.1 all) (inner_within all ps c e) h
  where
    go : (b : Bool) → (Has (inner all ps) c e → Has ps c e) → Has (elim b [ true ↦ p ∷ inner all ps | false ↦ inner all ps ]) c e → Has (p ∷ ps) c e
    go true ih k = ⊎_elim (λ l. has_here p ps c e l.0 l.1) (λ l. has_later p ps c e (ih l)) (has_cases p (inner all ps) c e k)
    go false ih k = has_later p ps c e (ih k)

-- what is left of ps is shorter, or nothing was taken away
abbrev Left : Deps → Deps → Deps → Type 0
Left all ps qs = (length qs < length ps) ⊎ ((length qs ≡ length ps) × ((c e : ℕ) → Has ps c e → leaves e all ≡ true))

inner_left : (all ps : Deps) → Left all ps (inner all ps)
inner_left all [] = inr (refl, λ c e h. absurd (false≢true h))
inner_left all (p ∷ ps) = go (leaves p.1 all) refl (inner_left all ps)
  where
    go : (b : Bool) → leaves p.1 all ≡ b → Left all ps (inner all ps) → Left all (p ∷ ps) (elim b [ true ↦ p ∷ inner all ps | false ↦ inner all ps ])
    go true q (inl l) = inl (omega arith)
    go true q (inr k) = inr (ap suc k.0, λ c e h. ⊎_elim (λ m. ap (λ x. leaves x all) (sym m.1) ∙ q) (k.1 c e) (has_cases p ps c e h))
    go false q (inl l) = inl (omega arith)
    go false q (inr k) = inl (let m = k.0 in omega arith)

falls_step : (n : ℕ) (D : Deps) (c e : ℕ) → Has D c e → (leaves e D ≡ true → height n (inner D D) e < height n (inner D D) c) → height (suc n) D e < height (suc n) D c
falls_step n D c e h f = rw (leaves_of D c e h) (go (leaves e D) refl)
  where
    go : (b : Bool) → leaves e D ≡ b → cond b (suc (height n (inner D D) e)) 0 < suc (height n (inner D D) c)
    go true q = let k = f q in omega arith
    go false q = omega arith

falls : (n : ℕ) (D : Deps) → none_left (peel n D) ≡ true → (c e : ℕ) → Has D c e → height n D e < height n D c
falls zero [] q c e h = absurd (false≢true h)
falls zero (p ∷ ps) q c e h = absurd (false≢true q)
falls (suc n) [] q c e h = absurd (false≢true h)
falls (suc n) (p ∷ ps) q c e h = falls_step n (p ∷ ps) c e h (λ l. falls n (inner (p ∷ ps) (p ∷ ps)) q c e (inner_keeps (p ∷ ps) (p ∷ ps) c e l h))

height_within : (n : ℕ) (D : Deps) (c : ℕ) → height n D c ≤ n
height_within zero D c = omega arith
height_within (suc n) D c = go (leaves c D) (height_within n (inner D D) c)
  where
    go : (b : Bool) → height n (inner D D) c ≤ n → cond b (suc (height n (inner D D) c)) 0 ≤ suc n
    go true h = omega arith
    go false h = omega arith

-- depth falls, and rank rises, strictly along every dependency of a list without a cycle
abbrev pub depth : Deps → ℕ → ℕ
depth D c = height (length D) D c

pub depth_falls : (D : Deps) → acyclic D ≡ true → (c e : ℕ) → Has D c e → depth D e < depth D c
depth_falls D q c e h = falls (length D) D q c e h

abbrev pub rank : Deps → ℕ → ℕ
rank D c = length D - depth D c

pub rank_rises : (D : Deps) → acyclic D ≡ true → (c e : ℕ) → Has D c e → rank D c < rank D e
rank_rises D q c e h =
    let a = depth_falls D q c e h in
    let b = height_within (length D) D c in
    omega arith

pub acyclic_no_cycle : (D : Deps) → acyclic D ≡ true → Cycle (Has D) → ⊥
acyclic_no_cycle D q = no_cycle_by_rank (Has D) (rank D) (rank_rises D q)

-- Where every channel depended on depends on something, following the first dependency each time comes round.

abbrev next : Deps → ℕ → ℕ
next [] c = 0
next (p ∷ ps) c = cond (eqb p.0 c) p.1 (next ps c)

has_next : (D : Deps) (c : ℕ) → leaves c D ≡ true → Has D c (next D c)
has_next [] c l = absurd (false≢true l)
has_next (p ∷ ps) c l = go (eqb p.0 c) refl (has_next ps c) l
  where
    go : (b : Bool) → eqb p.0 c ≡ b → (leaves c ps ≡ true → Has ps c (next ps c)) → (b || leaves c ps) ≡ true → Has (p ∷ ps) c (cond b p.1 (next ps c))
    go true q ih k = has_here p ps c p.1 (eqb-true _ _ q) refl
    go false q ih k = has_later p ps c (next ps c) (ih k)

abbrev without : ℕ → Deps → Deps
without c [] = []
without c (p ∷ ps) = cond (eqb p.0 c) (without c ps) (p ∷ without c ps)

length_without : (c : ℕ) (D : Deps) → length (without c D) ≤ length D
length_without c [] = omega arith
length_without c (p ∷ ps) = go (eqb p.0 c) (length_without c ps)
  where
    go : (b : Bool) → length (without c ps) ≤ length ps → length (cond b (without c ps) (p ∷ without c ps)) ≤ suc (length ps)
    go true h = omega arith
    go false h = omega arith

shorter_without : (c : ℕ) (D : Deps) → leaves c D ≡ true → length (without c D) < length D
shorter_without c [] l = absurd (false≢true l)
shorter_without c (p ∷ ps) l = go (eqb p.0 c) (length_without c ps) (shorter_without c ps) l
  where
    go : (b : Bool) → length (without c ps) ≤ length ps → (leaves c ps ≡ true → length (without c ps) < length ps) → (b || leaves c ps) ≡ true → length (cond b (without c ps) (p ∷ without c ps)) < suc (length ps)
    go true h ih k = omega arith
    go false h ih k = let m = ih k in omega arith

leaves_without : (c x : ℕ) (D : Deps) → (c ≡ x → ⊥) → leaves x D ≡ true → leaves x (without c D) ≡ true
leaves_without c x [] ne l = l
leaves_without c x (p ∷ ps) ne l = go (eqb p.0 c) refl (leaves_without c x ps ne) (or_cases (eqb p.0 x) (leaves x ps) l)
  where
    go : (b : Bool) → eqb p.0 c ≡ b → (leaves x ps ≡ true → leaves x (without c ps) ≡ true) → (eqb p.0 x ≡ true) ⊎ (leaves x ps ≡ true) → leaves x (cond b (without c ps) (p ∷ without c ps)) ≡ true
    go true q ih (inl k) = absurd (ne (sym (eqb-true _ _ q) ∙ eqb-true _ _ k))
    go true q ih (inr k) = ih k
    go false q ih (inl k) = or_left _ (leaves x (without c ps)) k
    go false q ih (inr k) = or_right (eqb p.0 x) _ (ih k)

all_without : (c : ℕ) (D : Deps) (xs : List ℕ) → Apart c xs → AllByRecursion (λ x. leaves x D ≡ true) xs → AllByRecursion (λ x. leaves x (without c D) ≡ true) xs
all_without c D [] a l = tt
all_without c D (x ∷ xs) a l = (leaves_without c x D a.0 l.0, all_without c D xs a.1 l.1)

distinct_fit : (xs : List ℕ) (D : Deps) → Distinct xs → AllByRecursion (λ x. leaves x D ≡ true) xs → length xs ≤ length D
distinct_fit [] D d l = omega arith
distinct_fit (x ∷ xs) D d l =
    let a = distinct_fit xs (without x D) d.1 (all_without x D xs d.0 l.1) in
    let b = shorter_without x D l.0 in
    omega arith

abbrev trail : Deps → ℕ → ℕ → List ℕ
trail D zero c = []
trail D (suc k) c = c ∷ trail D k (next D c)

length_trail : (D : Deps) (k c : ℕ) → length (trail D k c) ≡ k
length_trail D zero c = refl
length_trail D (suc k) c = ap suc (length_trail D k (next D c))

module _ (D : Deps) (closed : (c e : ℕ) → Has D c e → leaves e D ≡ true) where
  leaves_next : (c : ℕ) → leaves c D ≡ true → leaves (next D c) D ≡ true
  leaves_next c l = closed c (next D c) (has_next D c l)

  all_trail : (k c : ℕ) → leaves c D ≡ true → AllByRecursion (λ x. leaves x D ≡ true) (trail D k c)
  all_trail zero c l = tt
  all_trail (suc k) c l = (l, all_trail k (next D c) (leaves_next c l))

  meets : (k x c : ℕ) → leaves x D ≡ true → Leads D x c ⊎ Apart c (trail D k x)
  meets zero x c l = inr tt
  meets (suc k) x c l = go (cases_eq c x) (meets k (next D x) c (leaves_next x l))
    where
      go : (c ≡ x) ⊎ (c ≡ x → ⊥) → Leads D (next D x) c ⊎ Apart c (trail D k (next D x)) → Leads D x c ⊎ ((c ≡ x → ⊥) × Apart c (trail D k (next D x)))
      go (inl q) m = inl (inl (sym q))
      go (inr ne) (inl m) = inl (leads_step D x (next D x) c (has_next D x l) m)
      go (inr ne) (inr m) = inr (ne, m)

  comes_round : (k c : ℕ) → leaves c D ≡ true → Cycle (Has D) ⊎ Distinct (trail D k c)
  comes_round zero c l = inr tt
  comes_round (suc k) c l = go (meets k (next D c) c (leaves_next c l)) (comes_round k (next D c) (leaves_next c l))
    where
      go : Leads D (next D c) c ⊎ Apart c (trail D k (next D c)) → Cycle (Has D) ⊎ Distinct (trail D k (next D c)) → Cycle (Has D) ⊎ (Apart c (trail D k (next D c)) × Distinct (trail D k (next D c)))
      go (inl m) r = inl (cycle_from D c (next D c) (has_next D c l) m)
      go (inr a) (inl r) = inl r
      go (inr a) (inr r) = inr (a, r)

  closed_cycle : (c : ℕ) → leaves c D ≡ true → Cycle (Has D)
  closed_cycle c l = ⊎_elim (λ r. r) (λ d. let a = distinct_fit (trail D (suc (length D)) c) D d (all_trail (suc (length D)) c l) in let b = length_trail D (suc (length D)) c in absurd (omega arith)) (comes_round (suc (length D)) c l)

shrunk_cycle : (n : ℕ) (D : Deps) (c : ℕ) → leaves c D ≡ true → length D ≤ suc n → (length (inner D D) ≤ n → Cycle (Has (inner D D))) → Left D D (inner D D) → Cycle (Has D)
shrunk_cycle n D c k b ih (inl l) = cycle_map (Has (inner D D)) (Has D) (inner_within D D) (ih (omega arith))
shrunk_cycle n D c k b ih (inr s) = closed_cycle D s.1 c k

left_cycle : (n : ℕ) (D : Deps) → length D ≤ n → none_left (peel n D) ≡ false → Cycle (Has D)
left_cycle zero [] b q = absurd (true≢false q)
left_cycle zero (p ∷ ps) b q = absurd (omega arith)
left_cycle (suc n) [] b q = absurd (true≢false q)
left_cycle (suc n) (p ∷ ps) b q = shrunk_cycle n (p ∷ ps) p.0 (or_left _ (leaves p.0 ps) (eq-eqb _ _ refl)) b (λ l. left_cycle n (inner (p ∷ ps) (p ∷ ps)) l q) (inner_left (p ∷ ps) (p ∷ ps))

pub cycle_if_not_acyclic : (D : Deps) → acyclic D ≡ false → Cycle (Has D)
cycle_if_not_acyclic D q = left_cycle (length D) D (omega arith) q

pub acyclic_if_no_cycle : (D : Deps) → (Cycle (Has D) → ⊥) → acyclic D ≡ true
acyclic_if_no_cycle D f = go (acyclic D) refl
  where
    go : (b : Bool) → acyclic D ≡ b → b ≡ true
    go true q = refl
    go false q = absurd (f (cycle_if_not_acyclic D q))

-- every dependency of D is one of E
pub acyclic_within : (D E : Deps) → ((c e : ℕ) → Has D c e → Has E c e) → acyclic E ≡ true → acyclic D ≡ true
acyclic_within D E f q = acyclic_if_no_cycle D (λ y. acyclic_no_cycle E q (cycle_map (Has D) (Has E) f y))

-- order and repeats do not matter
pub acyclic_same : (D E : Deps) → ((c e : ℕ) → Has D c e → Has E c e) → ((c e : ℕ) → Has E c e → Has D c e) → acyclic D ≡ acyclic E
acyclic_same D E f g = go (acyclic D) (acyclic E) refl refl
  where
    go : (a b : Bool) → acyclic D ≡ a → acyclic E ≡ b → a ≡ b
    go true true q r = refl
    go true false q r = absurd (true≢false (sym (acyclic_within E D g q) ∙ r))
    go false true q r = absurd (true≢false (sym (acyclic_within D E f r) ∙ q))
    go false false q r = refl

pub acyclic_by_rank : (D : Deps) (up : ℕ → ℕ) → ((c e : ℕ) → Has D c e → up c < up e) → acyclic D ≡ true
acyclic_by_rank D up f = acyclic_if_no_cycle D (no_cycle_by_rank (Has D) up f)

-- one more dependency, of c on e, closes a cycle exactly where e leads to c
pub one_more_acyclic : (D : Deps) (c e : ℕ) → acyclic D ≡ true → (Leads D e c → ⊥) → acyclic ((c, e) ∷ D) ≡ true
one_more_acyclic D c e q f = acyclic_if_no_cycle ((c, e) ∷ D) (λ y. ⊎_elim (acyclic_no_cycle D q) f (cycle_one_more D c e y))

pub no_lead_if_acyclic : (D : Deps) (c e : ℕ) → acyclic ((c, e) ∷ D) ≡ true → Leads D e c → ⊥
no_lead_if_acyclic D c e q l = acyclic_no_cycle ((c, e) ∷ D) q (cycle_closed D c e l)

pub leads_if_closes : (D : Deps) (c e : ℕ) → acyclic D ≡ true → acyclic ((c, e) ∷ D) ≡ false → Leads D e c
leads_if_closes D c e q r = ⊎_elim (λ y. absurd (acyclic_no_cycle D q y)) (λ l. l) (cycle_one_more D c e (cycle_if_not_acyclic ((c, e) ∷ D) r))
