-- Laws of channels, walks and folds over ranges.
use Rattle.std.proofs.Common.{◌≡◌, ℕ, zero, suc, ◌+◌, ◌<◌, ◌≤◌, Bool, true, false, ◌⊎◌, List, [], ◌∷◌, ◌++◌, length, get_or, Some, None, Option, sym, refl, ap, ◌∙◌, subst, inl, inr, add-zero, arith}
use Rattle.std.specs.List.{AllByRecursion}
use Rattle.std.proofs.lemmas.Bool.Decides.{nat_tests}
use Rattle.std.proofs.lemmas.Bool.{cases_eq, both_ways}
use Rattle.wiring.specs.Lists.{range, fold, first_that}
use Rattle.wiring.specs.Topologies.{Topology, channels, partner, from, into, Walk, arrived, along, Joined, Valid}

pub none_some : {X : Type 0} {o : Option X} {x : X} → o ≡ None → o ≡ Some x → ⊥
none_some e f = let y : ◌≡◌ {A = ℕ} 0 1 = cc in omega arith

-- ---- channels

pub partner_partner : (c : ℕ) → partner (partner c) ≡ c
partner_partner c = grind (arith, nat_tests)

pub partner_below : (w : Topology) (c : ℕ) → c < channels w → partner c < channels w
partner_below w c h = grind (arith, nat_tests)

pub into_partner : (w : Topology) (c : ℕ) → into w (partner c) ≡ from w c
into_partner w c = ap (from w) (partner_partner c)

-- ---- walks

pub walk_on : {w : Topology} {y z n : ℕ} {cs ds : List ℕ} → Walk w z n cs → Walk w y z ds → Walk w y n (cs ++ ds)
walk_on arrived v = v
walk_on (along h u) v = along h (walk_on u v)

-- back along the partner of one channel
back_along : (w : Topology) (c : ℕ) → c < channels w → Walk w (from w c) (into w c) (partner c ∷ [])
back_along w c h = along (partner_below w c h) (subst (λ n. Walk w (from w c) n []) (sym (into_partner w c)) arrived)

pub walk_back : {w : Topology} {z n : ℕ} {cs : List ℕ} → Walk w z n cs → Joined w z n
walk_back arrived = ([], arrived)
walk_back {w} (along {c} {cs} h u) = let b = walk_back u in (b.0 ++ partner c ∷ [], walk_on b.1 (back_along w c h))

pub joined_to : (w : Topology) → Valid w → (n r : ℕ) → n < w.nodes → r < w.nodes → Joined w n r
joined_to w v n r h k =
    let a = v.joined n h in
    let b = walk_back (v.joined r k).1 in
    (a.0 ++ b.0, walk_on a.1 b.1)

-- every channel starts at a node of the wiring
abbrev pub Inside : Topology → Type 0
Inside w = (c : ℕ) → c < channels w → from w c < w.nodes

pub inside_of : {w : Topology} → Valid w → Inside w
inside_of v c h = (v.ends c h).0

pub into_inside : (w : Topology) → Inside w → (c : ℕ) → c < channels w → into w c < w.nodes
into_inside w inside c h = inside (partner c) (partner_below w c h)

-- ---- folds over ranges

pub fold_range : {S : Type 0} (P : ℕ → S → Type 0) (f : S → ℕ → S) (k n : ℕ) (s : S)
    → ((j : ℕ) (t : S) → k ≤ j → j < k + n → P j t → P (suc j) (f t j))
    → P k s → P (k + n) (fold f s (range k n))
fold_range P f k zero s step p = subst (λ x. P x s) (sym (add-zero k)) p
fold_range P f k (suc n) s step p =
    subst (λ x. P x (fold f (f s k) (range (suc k) n))) (omega arith)
    (fold_range P f (suc k) n (f s k) (λ j t a b q. step j t (omega arith) (omega arith) q) (step k s (omega arith) (omega arith) p))

pub length_range : (k n : ℕ) → length (range k n) ≡ n
length_range k zero = refl
length_range k (suc n) = ap suc (length_range (suc k) n)

pub get_or_range : (k n i d : ℕ) → i < n → get_or (range k n) i d ≡ k + i
get_or_range k zero i d h = absurd (omega arith)
get_or_range k (suc n) zero d h = omega arith
get_or_range k (suc n) (suc i) d h = get_or_range (suc k) n i d (omega arith) ∙ omega arith

-- ---- the first that passes

pub record First (p : ℕ → Bool) (k n c : ℕ) : Type 0 where
  pub low : k ≤ c
  pub high : c < k + n
  pub passes : p c ≡ true
  pub lowest : (j : ℕ) → k ≤ j → j < c → p j ≡ false

first_case : (p : ℕ → Bool) (k n c : ℕ) (b : Bool) → p k ≡ b
    → (first_that p (range (suc k) n) ≡ Some c → First p (suc k) n c)
    → elim b [ true ↦ Some k | false ↦ first_that p (range (suc k) n) ] ≡ Some c → First p k (suc n) c
first_case p k n c true t rest e =
    let q : k ≡ c = cc in
    record { low = omega arith; high = omega arith; passes = ap p (sym q) ∙ t; lowest = λ j a b. absurd (omega arith) }
first_case p k n c false t rest e = let f = rest e in
    record { low = omega arith; high = omega arith; passes = f.passes; lowest = at f }
  where
    at : First p (suc k) n c → (j : ℕ) → k ≤ j → j < c → p j ≡ false
    at f j a b = grind (arith, cases_eq j k, f.lowest j, t)

pub first_that_some : (p : ℕ → Bool) (k n c : ℕ) → first_that p (range k n) ≡ Some c → First p k n c
first_that_some p k zero c e = absurd (none_some refl e)
first_that_some p k (suc n) c e = first_case p k n c (p k) refl (first_that_some p (suc k) n c) e

-- where one passes, some first one does
first_found_case : (p : ℕ → Bool) (k n j : ℕ) (b : Bool) → p k ≡ b → k ≤ j → p j ≡ true
    → (suc k ≤ j → (c : ℕ) × (first_that p (range (suc k) n) ≡ Some c))
    → (c : ℕ) × (elim b [ true ↦ Some k | false ↦ first_that p (range (suc k) n) ] ≡ Some c)
first_found_case p k n j true t a q rest = (k, refl)
first_found_case p k n j false t a q rest = rest (later (cases_eq k j))
  where
    later : (k ≡ j) ⊎ (k ≡ j → ⊥) → suc k ≤ j
    later (inl e) = absurd (both_ways (p k) t (ap p e ∙ q))
    later (inr ne) = omega arith

pub first_found : (p : ℕ → Bool) (k n j : ℕ) → k ≤ j → j < k + n → p j ≡ true → (c : ℕ) × (first_that p (range k n) ≡ Some c)
first_found p k zero j a b q = absurd (omega arith)
first_found p k (suc n) j a b q = first_found_case p k n j (p k) refl a q (λ l. first_found p (suc k) n j l (omega arith) q)

range_among : (k a n : ℕ) → a + n ≤ k → AllByRecursion (λ i. i < k) (range a n)
range_among k a zero h = tt
range_among k a (suc n) h = (omega arith, range_among k (suc a) n (omega arith))

pub range_below : (n : ℕ) → AllByRecursion (λ i. i < n) (range 0 n)
range_below n = range_among n 0 n (omega arith)
