-- Writing a list piece by piece.
use Rattle.std.proofs.Common.{◌≡◌, ℕ, suc, ◌+◌, ◌-◌, ◌*◌, ◌<◌, ◌≤◌, true, List, ◌++◌, length, take, drop, Ok, sym, ap, ◌∙◌, subst, ap₂, append_assoc, mul-le-mul_left, mul-zero, mul-suc, add-one, arith}
use borrow.Rule.Slice.PartMut.{put_mid}
use Rattle.std.specs.List.{flat_map}
use Rattle.std.proofs.lemmas.List.{append-nil, take_all, drop-drop, take_at, drop_at}
use Rattle.std.proofs.lemmas.Slice.{take-put_mid}
use Rattle.std.proofs.lemmas.Bool.{and_from, le-leb, cond-true}
use Rattle.wiring.specs.Lists.{range}
use Rattle.wiring.specs.Soundness.{among}
use Rattle.wiring.specs.Tables.{Table}
use Rattle.sheet.specs.Plans.{read_plan}
use Rattle.sheet.specs.Written.{table_bytes, plan_head, plan_sheet, need, write_answer, write_after, Gives, ReadsBack}
use Rattle.sheet.proofs.PlanLaws.{sheet_length, sheet_reads_back}

-- n of N pieces, each of width w, stand at the front of xs
abbrev pub Begun : (ℕ → List ℕ) → ℕ → ℕ → ℕ → List ℕ → Type 0
Begun f w N n xs = flat_map f (range 0 N) ≡ take (w * n) xs ++ flat_map f (range n (N - n))

-- piece n lies inside
pub inside : (w n N l : ℕ) → n < N → l ≡ w * N → w * n + w ≤ l
inside w n N l h e = omega (arith, mul-le-mul_left w h, mul-suc w n)

module _ (f : ℕ → List ℕ) (w N : ℕ) where
  pub begun : (xs : List ℕ) → Begun f w N 0 xs
  begun xs =
      let a : 0 ≡ w * 0 = sym (mul-zero w) in
      let b : N ≡ N - 0 = omega arith in
      ap₂ (λ x y. take x xs ++ flat_map f (range 0 y)) a b

  pub begun_more : (n k : ℕ) (xs ys : List ℕ) → n < N → length xs ≡ w * N → ys ≡ f n → length (f n) ≡ w → Begun f w N n xs → Begun f w N (n + 1) (put_mid (w * n) k xs ys)
  begun_more n k xs ys h r p l e =
      let a : N - n ≡ suc (N - (n + 1)) = omega arith in
      let b : w * (n + 1) ≡ w * n + length ys = ap (λ x. w * x) (add-one n) ∙ mul-suc w n ∙ omega (arith, ap length p) in
      e
      ∙ ap (λ x. take (w * n) xs ++ flat_map f (range n x)) a
      ∙ ap (λ (x : List ℕ). take (w * n) xs ++ (x ++ flat_map f (range (suc n) (N - (n + 1))))) (sym p)
      ∙ sym (append_assoc (take (w * n) xs) ys _)
      ∙ ap₂ (λ (x : List ℕ) (y : ℕ). x ++ flat_map f (range y (N - (n + 1)))) (sym (take-put_mid (w * n) k xs ys (w * (n + 1)) b (omega (arith, inside w n N (length xs) h r)))) (sym (add-one n))

  pub begun_all : (n : ℕ) (xs : List ℕ) → n ≡ N → length xs ≡ w * N → Begun f w N n xs → xs ≡ flat_map f (range 0 N)
  begun_all n xs h l e =
      let a : N - n ≡ 0 = omega arith in
      sym (e ∙ ap (λ x. take (w * n) xs ++ flat_map f (range n x)) a ∙ append-nil _ ∙ take_all (w * n) xs (subst (λ x. length xs ≤ w * x) (sym h) (omega arith)))

-- a head of 12 bytes is written, and then what follows it
pub two_parts : (m head rest : List ℕ) (k : ℕ) → length head ≡ 12 → put_mid 12 k (put_mid 0 12 m head) rest ≡ (head ++ rest) ++ drop (12 + k) m
two_parts m head rest k l =
    ap₂ (λ (x y : List ℕ). x ++ (rest ++ drop k y)) (take_at head (drop 12 m) 12 l) (drop_at head (drop 12 m) 12 l)
    ∙ ap (λ (y : List ℕ). head ++ (rest ++ y)) (drop-drop k 12 m)
    ∙ sym (append_assoc head rest _)

module _ (n : ℕ) (t : Table) (m : List ℕ) (low : 1 ≤ n) (high : n ≤ 64) (room : need n ≤ length m) where
  few : among 1 64 n ≡ true
  few = and_from _ _ (le-leb 1 n low) (le-leb n 64 high)

  pub accepted : Ok (need n) ≡ write_answer n (length m)
  accepted = sym (cond-true _ _ _ few ∙ cond-true _ _ _ (le-leb (need n) (length m) room))

  module _ (k : ℕ) (head rest : List ℕ) (size : 12 + k ≡ need n) (p : head ≡ plan_head n) (q : rest ≡ table_bytes t (range 0 n) (range 0 n)) where
    laid : put_mid 12 k (put_mid 0 12 m head) rest ≡ plan_sheet n t ++ drop (need n) m
    laid = two_parts m head rest k (ap length p) ∙ ap₂ (λ (x : List ℕ) (y : ℕ). x ++ drop y m) (ap₂ ◌++◌ p q) size

    pub written : put_mid 12 k (put_mid 0 12 m head) rest ≡ write_after n t m
    written = laid ∙ sym (cond-true _ _ _ (and_from _ _ few (le-leb (need n) (length m) room)))

    pub reads_back : ReadsBack n t (Ok (need n)) (put_mid 12 k (put_mid 0 12 m head) rest)
    reads_back j e w =
        let length-is : need n ≡ j = cc in
        let front : take j (put_mid 12 k (put_mid 0 12 m head) rest) ≡ plan_sheet n t = ap₂ take (sym length-is) laid ∙ take_at (plan_sheet n t) _ (need n) (sheet_length n t) in
        subst (λ (s : List ℕ). Gives n t (read_plan s)) (sym front) (sheet_reads_back n t low high w)
