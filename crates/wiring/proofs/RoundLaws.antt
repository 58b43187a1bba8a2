-- The rounds of the levels, link by link and node by node.
use Rattle.std.proofs.Common.{◌≡◌, ℕ, suc, ◌+◌, ◌-◌, ◌*◌, ◌/◌, ◌%◌, ◌<◌, Bool, true, false, List, [], ◌∷◌, map, length, get_or, cond, Some, Option, sym, refl, ap, ◌∙◌, ap₂, add-one, add-zero, zero-add, arith}
use Rattle.std.specs.List.{position, position_from}
use Rattle.std.proofs.lemmas.List.{get_or-map}
use Rattle.std.proofs.lemmas.Iterator.Adapters.{position_from-zero}
use Rattle.wiring.specs.declared.links.Link.{Link}
use Rattle.wiring.specs.Lists.{range, fold, first_that}
use Rattle.wiring.specs.Levels.{spread, level_step}
use Rattle.wiring.specs.Links.{ends_of, no_link, drawn}
use Rattle.wiring.proofs.SoundnessLaws.{from_even, from_odd, into_even, into_odd, link_of}

-- one more of a range, from the front
pub range_more : (i n : ℕ) → i < n → range i (n - i) ≡ i ∷ range (i + 1) (n - (i + 1))
range_more i n l =
    let e : n - i ≡ suc (n - (i + 1)) = omega arith in
    let f : suc i ≡ i + 1 = omega arith in
    ap (range i) e ∙ ap (λ j. i ∷ range j (n - (i + 1))) f

-- both channels of a link
pub range_pair : (j k : ℕ) → j < k → range (2 * j) (2 * (k - j)) ≡ (2 * j) ∷ (2 * j + 1) ∷ range (2 * (j + 1)) (2 * (k - (j + 1)))
range_pair j k l =
    let e : 2 * (k - j) ≡ suc (suc (2 * (k - (j + 1)))) = omega arith in
    let f : suc (2 * j) ≡ 2 * j + 1 = omega arith in
    let g : suc (suc (2 * j)) ≡ 2 * (j + 1) = omega arith in
    ap (range (2 * j)) e ∙ ap₂ (λ x y. (2 * j) ∷ x ∷ range y (2 * (k - (j + 1)))) f g

module _ (n k : ℕ) (ls : List Link) (j : ℕ) (l : j < length ls) where
  held : (c : ℕ) → c / 2 ≡ j → link_of (drawn n k ls) c ≡ ends_of (get_or ls j no_link)
  held c e = ap (λ i. get_or (map ends_of ls) i (0, 0)) e ∙ get_or-map ends_of ls j no_link (0, 0) l

  -- one link of a round
  pub step_pair : (i : ℕ) (acc : List (Option ℕ)) → level_step (drawn n k ls) i (level_step (drawn n k ls) i acc (2 * j)) (2 * j + 1) ≡ spread i (spread i acc (get_or ls j no_link).first (get_or ls j no_link).second) (get_or ls j no_link).second (get_or ls j no_link).first
  step_pair i acc =
      let w = drawn n k ls in
      let a : (2 * j) % 2 ≡ 0 = omega arith in
      let b : (2 * j + 1) % 2 ≡ 1 = omega arith in
      let e = held (2 * j) (omega arith) in
      let f = held (2 * j + 1) (omega arith) in
      ap₂ (λ x y. spread i (level_step w i acc (2 * j)) x y) (from_odd w (2 * j + 1) b ∙ ap (λ p. p.1) f) (into_odd w (2 * j + 1) b ∙ ap (λ p. p.0) f)
      ∙ ap₂ (λ x y. spread i (spread i acc x y) (get_or ls j no_link).second (get_or ls j no_link).first) (from_even w (2 * j) a ∙ ap (λ p. p.0) e) (into_even w (2 * j) a ∙ ap (λ p. p.1) e)

  pub round_more : (i : ℕ) (acc : List (Option ℕ)) → fold (level_step (drawn n k ls) i) acc (range (2 * j) (2 * (length ls - j)))
      ≡ fold (level_step (drawn n k ls) i) (spread i (spread i acc (get_or ls j no_link).first (get_or ls j no_link).second) (get_or ls j no_link).second (get_or ls j no_link).first) (range (2 * (j + 1)) (2 * (length ls - (j + 1))))
  round_more i acc =
      let f : List (Option ℕ) → ℕ → List (Option ℕ) = level_step (drawn n k ls) i in
      ap (fold f acc) (range_pair j (length ls) l) ∙ ap (λ (s : List (Option ℕ)). fold f s (range (2 * (j + 1)) (2 * (length ls - (j + 1))))) (step_pair i acc)

pub fold_more : {S : Type 0} (f : S → ℕ → S) (s : S) (i n : ℕ) → i < n → fold f s (range i (n - i)) ≡ fold f (f s i) (range (i + 1) (n - (i + 1)))
fold_more f s i n l = ap (fold f s) (range_more i n l)

-- the first place of a list whose element passes, as the first number that does
pub first_place : {X : Type 0} (p : X → Bool) (d : X) (q : ℕ → Bool) (xs : List X) → ((k : ℕ) → k < length xs → q k ≡ p (get_or xs k d)) → position p xs ≡ first_that q (range 0 (length xs))
first_place {X} p d q xs same = position_from-zero p xs ∙ along 0 xs (λ k l. ap q (zero-add k) ∙ same k l)
  where
    head : (j : ℕ) (a b : Bool) (r s : Option ℕ) → a ≡ b → r ≡ s → cond a (Some j) r ≡ elim b [ true ↦ Some j | false ↦ s ]
    head j true b r s e f = rw (← e) refl
    head j false b r s e f = rw (← e) f

    along : (j : ℕ) (ys : List X) → ((k : ℕ) → k < length ys → q (j + k) ≡ p (get_or ys k d)) → position_from p j ys ≡ first_that q (range j (length ys))
    along j [] h = refl
    along j (y ∷ ys) h =
        let rest = along (suc j) ys (λ k l. let e : suc j + k ≡ j + suc k = omega arith in ap q e ∙ h (suc k) (omega arith)) in
        head j (p y) (q j) _ _ (sym (h 0 (omega arith)) ∙ ap q (add-zero j)) (ap (λ i. position_from p i ys) (add-one j) ∙ rest)
