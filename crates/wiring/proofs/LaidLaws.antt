-- The own channels of all nodes, one node behind the other.
use Rattle.std.proofs.Common.{◌≡◌, ℕ, zero, suc, ◌+◌, ◌-◌, ◌<◌, ◌≤◌, Bool, true, false, eqb, ltb, List, [], ◌∷◌, ◌++◌, length, get_or, take, drop, set, filter, sym, refl, ap, ◌∙◌, subst, ap₂, ⊎_elim, add-one, arith}
use Rattle.std.specs.List.{between, ContainsAt}
use Rattle.std.proofs.lemmas.List.{append-nil, append_assoc, length-append, take_more_set, take-take, take_at, drop_at}
use Rattle.std.proofs.lemmas.Slice.{between_is}
use Rattle.std.proofs.lemmas.List.Elements.{filter-append}
use Rattle.std.proofs.ByRecursion.{has_append_left, has_push}
use Rattle.std.proofs.lemmas.Bool.{eq-eqb, ne_eqb, lt-ltb, le-ltb, cases_lt, cond-true, cond-false, cond_both}
use Rattle.std.proofs.lemmas.Bool.Decides.{nat_tests}
use Rattle.wiring.specs.Lists.{range}
use Rattle.wiring.specs.Topologies.{Topology, Valid, channels, from, all_channels}
use Rattle.wiring.specs.declared.wirings.Wiring.{Wiring}
use Rattle.wiring.specs.Owned.{own, laid, Owns}
use Rattle.wiring.specs.Spans.{part}
use Rattle.wiring.specs.Wirings.{topology}
use Rattle.wiring.proofs.TopologyLaws.{length_range}
use Rattle.wiring.proofs.HeldLaws.{valid}
use Rattle.wiring.proofs.OwnedLaws.{inward_partners, own_starts, own_ascends, partners_ascend}

-- ---- what is kept of a range

pub range_split : (i m n : ℕ) → range i (m + n) ≡ range i m ++ range (i + m) n
range_split i zero n = let e : 0 + n ≡ n = omega arith in let f : i + 0 ≡ i = omega arith in rw (e, f)
range_split i (suc m) n =
    let e : suc m + n ≡ suc (m + n) = omega arith in
    let f : suc i + m ≡ i + suc m = omega arith in
    ap (range i) e ∙ ap (λ (xs : List ℕ). i ∷ xs) (range_split (suc i) m n ∙ ap (λ j. range (suc i) m ++ range j n) f)

module _ (p : ℕ → Bool) where
  abbrev pub kept : ℕ → List ℕ
  kept c = filter p (range 0 c)

  kept_split : (m n : ℕ) → kept (m + n) ≡ kept m ++ filter p (range (0 + m) n)
  kept_split m n = ap (filter p) (range_split 0 m n) ∙ filter-append p (range 0 m) (range (0 + m) n)

  pub kept_hit : (c : ℕ) → p c ≡ true → kept (c + 1) ≡ kept c ++ c ∷ []
  kept_hit c e = let z : 0 + c ≡ c = omega arith in kept_split c 1 ∙ ap (λ j. kept c ++ filter p (j ∷ [])) z ∙ rw e

  pub kept_miss : (c : ℕ) → p c ≡ false → kept (c + 1) ≡ kept c
  kept_miss c e = let z : 0 + c ≡ c = omega arith in kept_split c 1 ∙ ap (λ j. kept c ++ filter p (j ∷ [])) z ∙ rw e (append-nil (kept c))

  -- there is room for one more
  pub kept_room : (c n : ℕ) → c < n → p c ≡ true → length (kept c) < length (kept n)
  kept_room c n l e =
      let q : c + 1 + (n - (c + 1)) ≡ n = omega arith in
      let a = ap length (ap kept (sym q) ∙ kept_split (c + 1) (n - (c + 1))) ∙ length-append (kept (c + 1)) _ in
      let b = ap length (kept_hit c e) ∙ length-append (kept c) (c ∷ []) in
      omega arith

  kept_has : (c n : ℕ) → c < n → p c ≡ true → ContainsAt (kept n) c
  kept_has c n l e =
      let q : c + 1 + (n - (c + 1)) ≡ n = omega arith in
      subst (λ (xs : List ℕ). ContainsAt xs c) (sym (kept_split (c + 1) (n - (c + 1))) ∙ ap kept q)
      (has_append_left (kept (c + 1)) _ c (subst (λ (xs : List ℕ). ContainsAt xs c) (sym (kept_hit c e)) (has_push (kept c) c)))

-- ---- one node

abbrev at : Topology → ℕ → ℕ → Bool
at w n c = eqb (from w c) n

-- behind the first ones stand the channels below c that start at n, up to the top
pub record Listed (w : Topology) (n begin : ℕ) (was : List ℕ) (c : ℕ) (held : List ℕ) (top : ℕ) : Type 0 where
  pub count : top ≡ begin + length (kept (at w n) c)
  pub front : take top held ≡ take begin was ++ kept (at w n) c

module _ (w : Topology) (n begin : ℕ) (was : List ℕ) (c : ℕ) (held : List ℕ) (top : ℕ) (h : Listed w n begin was c held top) where
  pub listed_miss : (from w c ≡ n → ⊥) → Listed w n begin was (c + 1) held top
  listed_miss ne = let e = sym (kept_miss (at w n) c (ne_eqb _ _ ne)) in
      record { count = h.count ∙ ap (λ (xs : List ℕ). begin + length xs) e; front = h.front ∙ ap (λ (xs : List ℕ). take begin was ++ xs) e }

  pub listed_hit : top < length held → from w c ≡ n → Listed w n begin was (c + 1) (set held top c) (top + 1)
  listed_hit l q = let e = kept_hit (at w n) c (eq-eqb _ _ q) in
      record {
        count = let a = h.count in let b = ap length e ∙ length-append (kept (at w n) c) (c ∷ []) in omega arith;
        front =
            take_more_set held top c l
            ∙ ap (λ (xs : List ℕ). xs ++ c ∷ []) h.front
            ∙ append_assoc (take begin was) (kept (at w n) c) (c ∷ [])
            ∙ ap (λ (xs : List ℕ). take begin was ++ xs) (sym e);
      }

  pub listed_room : c < channels w → from w c ≡ n → top < begin + length (own w n)
  listed_room l q = let a = h.count in let b = kept_room (at w n) c (channels w) l (eq-eqb _ _ q) in omega arith

-- ---- all nodes

module _ (w : Topology) where
  before : ℕ → List ℕ → List ℕ
  before n cs = filter (λ c. ltb (from w c) n) cs

  count_more : (n : ℕ) (cs : List ℕ) → length (before (suc n) cs) ≡ length (before n cs) + length (filter (λ c. eqb (from w c) n) cs)
  unfolding before
  count_more n [] = refl
  count_more n (c ∷ cs) = let h = count_more n cs in grind (arith, nat_tests)

  count_most : (n : ℕ) (cs : List ℕ) → length (before n cs) ≤ length cs
  unfolding before
  count_most n [] = omega arith
  count_most n (c ∷ cs) = let h = count_most n cs in cond_both (ltb (from w c) n) (c ∷ before n cs) (before n cs) (λ xs. length xs ≤ suc (length cs)) (λ e. omega arith) (λ e. omega arith)

  none_before : (cs : List ℕ) → length (before 0 cs) ≡ 0
  unfolding before
  none_before [] = refl
  none_before (c ∷ cs) = let h = none_before cs in grind (arith, nat_tests)

  laid_count : (n : ℕ) → length (laid w n) ≡ length (before n (all_channels w))
  laid_count zero = sym (none_before (all_channels w))
  laid_count (suc n) = length-append (laid w n) (own w n) ∙ ap (λ k. k + length (own w n)) (laid_count n) ∙ sym (count_more n (all_channels w))

  -- no channel is listed twice
  pub laid_few : (n : ℕ) → length (laid w n) ≤ channels w
  laid_few n = let a = laid_count n in let b = count_most n (all_channels w) in let e = length_range 0 (channels w) in omega arith

  pub laid_more : (n : ℕ) → laid w (n + 1) ≡ laid w n ++ own w n
  laid_more n = ap (laid w) (add-one n)

  pub laid_longer : (n : ℕ) → length (laid w (n + 1)) ≡ length (laid w n) + length (own w n)
  laid_longer n = ap length (laid_more n) ∙ length-append (laid w n) (own w n)

  laid_on : (m d : ℕ) → (rest : List ℕ) × (laid w (m + d) ≡ laid w m ++ rest)
  laid_on m zero = ([], let e : m + 0 ≡ m = omega arith in ap (laid w) e ∙ sym (append-nil (laid w m)))
  laid_on m (suc d) =
      let h = laid_on m d in
      let e : m + suc d ≡ suc (m + d) = omega arith in
      (h.0 ++ own w (m + d), ap (laid w) e ∙ ap (λ (xs : List ℕ). xs ++ own w (m + d)) h.1 ∙ append_assoc (laid w m) h.0 (own w (m + d)))

  -- the nodes below m come first
  laid_front : (m n : ℕ) → m ≤ n → take (length (laid w m)) (laid w n) ≡ laid w m
  laid_front m n l =
      let e : m + (n - m) ≡ n = omega arith in
      let h = laid_on m (n - m) in
      ap (take (length (laid w m))) (ap (laid w) (sym e) ∙ h.1) ∙ take_at (laid w m) h.0 (length (laid w m)) refl

  pub laid_short : (m n : ℕ) → m ≤ n → length (laid w m) ≤ length (laid w n)
  laid_short m n l =
      let e : m + (n - m) ≡ n = omega arith in
      let h = laid_on m (n - m) in
      let a = ap length (ap (laid w) (sym e) ∙ h.1) ∙ length-append (laid w m) h.0 in
      omega arith

  -- a node's part
  pub laid_part : (held : List ℕ) (n m : ℕ) → n < m → take (length (laid w m)) held ≡ laid w m
      → between (length (laid w n)) (length (laid w (n + 1))) held ≡ own w n
  laid_part held n m l e =
      between_is held (length (laid w n)) (length (laid w (n + 1)))
      ∙ ap (drop (length (laid w n))) (sym (take-take (length (laid w (n + 1))) (length (laid w m)) held (laid_short (n + 1) m (omega arith))) ∙ ap (take (length (laid w (n + 1)))) e ∙ laid_front (n + 1) m (omega arith) ∙ laid_more n)
      ∙ drop_at (laid w n) (own w n) (length (laid w n)) refl

-- ---- what own channels are

pub own_laws : (w : Topology) → Valid w → (n : ℕ) → Owns w n (own w n)
own_laws w ok n = record {
  start = own_starts w n;
  every = λ c l e. kept_has (λ c. eqb (from w c) n) c (channels w) l (eq-eqb _ _ e);
  rise = own_ascends w n;
  partners = inward_partners w ok n;
  partners_rise = partners_ascend w ok n;
}

pub few_channels : (w : Wiring) → channels (topology w) ≤ 240
few_channels w = let r = w.room in let e = w.pairs in omega arith

-- no channel starts past the last node
module _ (w : Topology) (ok : Valid w) (n : ℕ) (past : w.nodes ≤ n) where
  none_own : (k : ℕ) → k ≤ channels w → kept (at w n) k ≡ []
  none_own zero l = refl
  none_own (suc k) l = ap (kept (at w n)) (sym (add-one k)) ∙ kept_miss (at w n) k (ne_eqb _ _ (λ e. let h = (ok.ends k (omega arith)).0 in omega arith)) ∙ none_own k (omega arith)

  pub past_own : own w n ≡ []
  past_own = none_own (channels w) (omega arith)

-- the parts of the table are the own channels
pub part_own : (w : Wiring) (held begins : List ℕ) → ((i : ℕ) → i < 65 → get_or begins i 0 ≡ length (laid (topology w) i)) → take (length (laid (topology w) 64)) held ≡ laid (topology w) 64
    → (n : ℕ) → part held begins n ≡ own (topology w) n
part_own w held begins begun front n = ⊎_elim inside past (cases_lt n 64)
  where
    inside : n < 64 → part held begins n ≡ own (topology w) n
    inside l =
        cond-true (ltb n 64) _ [] (lt-ltb n 64 l)
        ∙ ap₂ (λ a b. between a b held) (begun n (omega arith)) (begun (n + 1) (omega arith))
        ∙ laid_part (topology w) held n 64 l front

    past : 64 ≤ n → part held begins n ≡ own (topology w) n
    past l = let few = w.few in cond-false (ltb n 64) _ [] (le-ltb n 64 l) ∙ sym (past_own (topology w) (valid w) n (omega arith))
