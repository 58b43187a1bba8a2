-- Laws of levels: each node's least number of channels to the root.
use Rattle.std.proofs.Common.{◌≡◌, ℕ, zero, suc, ◌+◌, ◌<◌, ◌≤◌, Bool, true, false, cond, not, ◌&&◌, eqb, ltb, ◌⊎◌, List, [], ◌∷◌, length, get_or, set, replicate, is_some, Some, None, Option, sym, refl, ap, ◌∙◌, subst, inl, inr, arith}
use Rattle.std.proofs.lemmas.List.{length-set, length-replicate, get_or-set_same, get_or-set_other, get_or_past}
use Rattle.std.proofs.lemmas.Bool.Decides.{nat_tests}
use Rattle.std.proofs.lemmas.Bool.{cases_eq, cases_lt, and_parts, eqb-true}
use Rattle.wiring.specs.Topologies.{Topology, channels, from, into, Walk, arrived, along, Joined, Valid}
use Rattle.wiring.specs.Levels.{level_step, level_round, levels}
use Rattle.wiring.proofs.TopologyLaws.{none_some, Inside, inside_of, fold_range, joined_to}

-- ---- one place of a list of options is filled

set_keeps : (xs : List (Option ℕ)) (p n l v : ℕ) → get_or xs p None ≡ None → get_or xs n None ≡ Some l → get_or (set xs p (Some v)) n None ≡ Some l
set_keeps xs p n l v e f = at (cases_eq n p)
  where
    at : (n ≡ p) ⊎ (n ≡ p → ⊥) → get_or (set xs p (Some v)) n None ≡ Some l
    at (inl q) = cc
    at (inr q) = get_or-set_other xs p n (Some v) None q ∙ f

set_was : (xs : List (Option ℕ)) (p n l v : ℕ) → p < length xs → get_or (set xs p (Some v)) n None ≡ Some l
    → (get_or xs n None ≡ Some l) ⊎ ((n ≡ p) × (l ≡ v))
set_was xs p n l v h f = at (cases_eq n p)
  where
    at : (n ≡ p) ⊎ (n ≡ p → ⊥) → (get_or xs n None ≡ Some l) ⊎ ((n ≡ p) × (l ≡ v))
    at (inl q) = inr (q, let s = get_or-set_same xs p (Some v) None h in cc)
    at (inr q) = inl (sym (get_or-set_other xs p n (Some v) None q) ∙ f)

blank_at : (k n : ℕ) → get_or (replicate {A = Option ℕ} k None) n None ≡ None
blank_at zero n = refl
blank_at (suc k) zero = refl
blank_at (suc k) (suc n) = blank_at k n

-- ---- how many of a list are below a level: as many as there are levels, where each of them stands there

below : Option ℕ → ℕ → ℕ
below None l = 0
below (Some x) l = cond (ltb x l) 1 0

filled : List (Option ℕ) → ℕ → ℕ
filled [] l = 0
filled (x ∷ xs) l = below x l + filled xs l

filled_most : (xs : List (Option ℕ)) (l : ℕ) → filled xs l ≤ length xs
unfolding filled below
filled_most [] l = omega arith
filled_most (None ∷ xs) l = let h = filled_most xs l in omega arith
filled_most (Some x ∷ xs) l = let h = filled_most xs l in grind (arith, nat_tests)

filled_rises : (xs : List (Option ℕ)) (l : ℕ) → filled xs l ≤ filled xs (suc l)
unfolding filled below
filled_rises [] l = omega arith
filled_rises (None ∷ xs) l = let h = filled_rises xs l in omega arith
filled_rises (Some x ∷ xs) l = let h = filled_rises xs l in grind (arith, nat_tests)

filled_more : (xs : List (Option ℕ)) (n l : ℕ) → get_or xs n None ≡ Some l → filled xs l < filled xs (suc l)
unfolding filled below
filled_more [] n l e = absurd (none_some refl e)
filled_more (None ∷ xs) zero l e = absurd (none_some refl e)
filled_more (Some x ∷ xs) zero l e = let h = filled_rises xs l in let q : x ≡ l = cc in grind (arith, nat_tests)
filled_more (None ∷ xs) (suc n) l e = let h = filled_more xs n l e in omega arith
filled_more (Some x ∷ xs) (suc n) l e = let h = filled_more xs n l e in grind (arith, nat_tests)

filled_all : (xs : List (Option ℕ)) (l : ℕ) → ((j : ℕ) → j < l → (n : ℕ) × (get_or xs n None ≡ Some j)) → l ≤ filled xs l
filled_all xs zero each = omega arith
filled_all xs (suc l) each =
    let h = filled_all xs l (λ j a. each j (omega arith)) in
    let p = each l (omega arith) in
    let q = filled_more xs p.0 l p.1 in
    omega arith

-- ---- the rounds

-- the level of n stands there and is at most l
abbrev pub AtMost : List (Option ℕ) → ℕ → ℕ → Type 0
AtMost ls n l = (m : ℕ) × (get_or ls n None ≡ Some m) × (m ≤ l)

-- in round i, channels below k done
record Mid (w : Topology) (root i k : ℕ) (acc : List (Option ℕ)) : Type 0 where
  long : length acc ≡ w.nodes
  start : get_or acc root None ≡ Some 0
  only : (n : ℕ) → get_or acc n None ≡ Some 0 → n ≡ root
  top : (n l : ℕ) → get_or acc n None ≡ Some l → l ≤ suc i
  prev : (n j : ℕ) → get_or acc n None ≡ Some (suc j) → (c : ℕ) × (c < channels w) × (from w c ≡ n) × (get_or acc (into w c) None ≡ Some j)
  closed : (c l : ℕ) → c < channels w → get_or acc (into w c) None ≡ Some l → l < i → AtMost acc (from w c) (suc l)
  begun : (c : ℕ) → c < k → get_or acc (into w c) None ≡ Some i → AtMost acc (from w c) (suc i)

module _ (w : Topology) (root : ℕ) (inside : Inside w) (root_in : root < w.nodes) where
  abbrev In : ℕ → ℕ → List (Option ℕ) → Type 0
  In = Mid w root

  -- a channel that changes nothing
  idle : (i k : ℕ) (acc : List (Option ℕ)) → In i k acc
      → (get_or acc (into w k) None ≡ Some i → AtMost acc (from w k) (suc i)) → In i (suc k) acc
  idle i k acc h here = record { long = h.long; start = h.start; only = h.only; top = h.top; prev = h.prev; closed = h.closed; begun = λ c l e. at c l e (cases_eq c k) }
    where
      at : (c : ℕ) → c < suc k → get_or acc (into w c) None ≡ Some i → (c ≡ k) ⊎ (c ≡ k → ⊥) → AtMost acc (from w c) (suc i)
      at c l e (inl q) = subst (λ x. get_or acc (into w x) None ≡ Some i → AtMost acc (from w x) (suc i)) (sym q) here e
      at c l e (inr q) = h.begun c (omega arith) e

  -- a channel that gives its start a level
  fills : (i k : ℕ) (acc : List (Option ℕ)) → k < channels w → In i k acc → get_or acc (into w k) None ≡ Some i → get_or acc (from w k) None ≡ None
      → In i (suc k) (set acc (from w k) (Some (suc i)))
  fills i k acc l h e f = record {
    long = length-set acc (from w k) (Some (suc i)) ∙ h.long;
    start = keep root 0 h.start;
    only = λ n q. only_at n (was n 0 q);
    top = λ n x q. top_at n x (was n x q);
    prev = λ n j q. prev_at n j (was n (suc j) q);
    closed = λ c x a q b. closed_at c x a b (was (into w c) x q);
    begun = λ c a q. begun_at c a (was (into w c) i q) (cases_eq c k);
  }
    where
      new : List (Option ℕ)
      new = set acc (from w k) (Some (suc i))

      keep : (n x : ℕ) → get_or acc n None ≡ Some x → get_or new n None ≡ Some x
      keep n x q = set_keeps acc (from w k) n x (suc i) f q

      within : from w k < length acc
      within = let a = inside k l in let b = h.long in omega arith

      was : (n x : ℕ) → get_or new n None ≡ Some x → (get_or acc n None ≡ Some x) ⊎ ((n ≡ from w k) × (x ≡ suc i))
      was n x q = set_was acc (from w k) n x (suc i) within q

      only_at : (n : ℕ) → (get_or acc n None ≡ Some 0) ⊎ ((n ≡ from w k) × (0 ≡ suc i)) → n ≡ root
      only_at n (inl q) = h.only n q
      only_at n (inr q) = absurd (omega arith)

      top_at : (n x : ℕ) → (get_or acc n None ≡ Some x) ⊎ ((n ≡ from w k) × (x ≡ suc i)) → x ≤ suc i
      top_at n x (inl q) = h.top n x q
      top_at n x (inr q) = omega arith

      prev_at : (n j : ℕ) → (get_or acc n None ≡ Some (suc j)) ⊎ ((n ≡ from w k) × (suc j ≡ suc i)) → (c : ℕ) × (c < channels w) × (from w c ≡ n) × (get_or new (into w c) None ≡ Some j)
      prev_at n j (inl q) = let p = h.prev n j q in (p.0, p.1, p.2, keep (into w p.0) j p.3)
      prev_at n j (inr q) = (k, l, sym q.0, let s : i ≡ j = omega arith in keep (into w k) i e ∙ ap Some s)

      closed_at : (c x : ℕ) → c < channels w → x < i → (get_or acc (into w c) None ≡ Some x) ⊎ ((into w c ≡ from w k) × (x ≡ suc i)) → AtMost new (from w c) (suc x)
      closed_at c x a b (inl q) = let p = h.closed c x a q b in (p.0, keep (from w c) p.0 p.1, p.2)
      closed_at c x a b (inr q) = absurd (omega arith)

      begun_at : (c : ℕ) → c < suc k → (get_or acc (into w c) None ≡ Some i) ⊎ ((into w c ≡ from w k) × (i ≡ suc i)) → (c ≡ k) ⊎ (c ≡ k → ⊥) → AtMost new (from w c) (suc i)
      begun_at c a (inl q) (inl s) = (suc i, ap (λ x. get_or new (from w x) None) s ∙ get_or-set_same acc (from w k) (Some (suc i)) None within, omega arith)
      begun_at c a (inl q) (inr s) = let p = h.begun c (omega arith) q in (p.0, keep (from w c) p.0 p.1, p.2)
      begun_at c a (inr q) s = absurd (omega arith)

  -- the test of the step: o is what stands at the channel's start
  tested : (i k x : ℕ) (acc : List (Option ℕ)) (o : Option ℕ) (b : Bool) → k < channels w → In i k acc
      → get_or acc (into w k) None ≡ Some x → get_or acc (from w k) None ≡ o → (eqb x i && not (is_some o)) ≡ b
      → In i (suc k) (elim b [ true ↦ set acc (from w k) (Some (suc i)) | false ↦ acc ])
  tested i k x acc None true l h e f t = fills i k acc l h (e ∙ ap Some (eqb-true x i (and_parts (eqb x i) true t).0)) f
  tested i k x acc (Some m) true l h e f t = let z = (and_parts (eqb x i) false t).1 in let y : ◌≡◌ {A = ℕ} 0 1 = cc in absurd (omega arith)
  tested i k x acc None false l h e f t = idle i k acc h λ q. absurd (no q)
    where
      no : get_or acc (into w k) None ≡ Some i → ⊥
      no q = let s : x ≡ i = cc in grind (arith, nat_tests)
  tested i k x acc (Some m) false l h e f t = idle i k acc h λ q. (m, f, h.top (from w k) m f)

  looked : (i k : ℕ) (acc : List (Option ℕ)) (o : Option ℕ) → k < channels w → In i k acc → get_or acc (into w k) None ≡ o
      → In i (suc k) (elim o [
        | None ↦ acc
        | Some x ↦ elim (eqb x i && not (is_some (get_or acc (from w k) None))) [ true ↦ set acc (from w k) (Some (suc i)) | false ↦ acc ]
      ])
  looked i k acc None l h e = idle i k acc h λ q. absurd (none_some e q)
  looked i k acc (Some x) l h e = tested i k x acc (get_or acc (from w k) None) (eqb x i && not (is_some (get_or acc (from w k) None))) l h e refl refl

  next_round : (i : ℕ) (acc : List (Option ℕ)) → In i (channels w) acc → In (suc i) 0 acc
  next_round i acc h = record {
    long = h.long;
    start = h.start;
    only = h.only;
    prev = h.prev;
    top = λ n l e. let a = h.top n l e in omega arith;
    closed = λ c l a e b. closed_at c l a e b (cases_eq l i);
    begun = λ c a e. absurd (omega arith);
  }
    where
      closed_at : (c l : ℕ) → c < channels w → get_or acc (into w c) None ≡ Some l → l < suc i → (l ≡ i) ⊎ (l ≡ i → ⊥) → AtMost acc (from w c) (suc l)
      closed_at c l a e b (inl q) = let p = h.begun c a (e ∙ ap Some q) in (p.0, p.1, let s = p.2 in omega arith)
      closed_at c l a e b (inr q) = h.closed c l a e (omega arith)

  round : (i : ℕ) (acc : List (Option ℕ)) → In i 0 acc → In (suc i) 0 (level_round w acc i)
  round i acc h =
      next_round i (level_round w acc i)
      (subst (λ k. In i k (level_round w acc i)) (omega arith)
      (fold_range (In i) (level_step w i) 0 (channels w) acc (λ j t a b g. looked i j t (get_or t (into w j) None) (omega arith) g refl) h))

  at_first : In 0 0 (set (replicate w.nodes None) root (Some 0))
  at_first = record {
    long = length-set blanks root (Some 0) ∙ length-replicate w.nodes None;
    start = get_or-set_same blanks root (Some 0) None within;
    only = λ n e. (was n 0 e).0;
    top = λ n l e. let a = (was n l e).1 in omega arith;
    prev = λ n j e. let a = (was n (suc j) e).1 in absurd (omega arith);
    closed = λ c l a e b. absurd (omega arith);
    begun = λ c a e. absurd (omega arith);
  }
    where
      blanks : List (Option ℕ)
      blanks = replicate w.nodes None

      within : root < length blanks
      within = let e = length-replicate {A = Option ℕ} w.nodes None in omega arith

      was : (n l : ℕ) → get_or (set blanks root (Some 0)) n None ≡ Some l → (n ≡ root) × (l ≡ 0)
      was n l e = elim (set_was blanks root n l 0 within e) [ inl q ↦ absurd (none_some (blank_at w.nodes n) q) | inr q ↦ q ]

  rounds : In (0 + w.nodes) 0 (levels w root)
  rounds = fold_range (λ i ls. In i 0 ls) (level_round w) 0 w.nodes (set (replicate w.nodes None) root (Some 0)) (λ j t a b g. round j t g) at_first

  module _ (ls : List (Option ℕ)) (h : In w.nodes 0 ls) where
    -- every level up to that of a node is some node's
    lower : (l n j : ℕ) → get_or ls n None ≡ Some l → j ≤ l → (p : ℕ) × (get_or ls p None ≡ Some j)
    lower zero n j e a = (n, let q : 0 ≡ j = omega arith in e ∙ ap Some q)
    lower (suc l) n j e a = at (cases_eq j (suc l)) (h.prev n l e) (lower l)
      where
        at : (j ≡ suc l) ⊎ (j ≡ suc l → ⊥) → (c : ℕ) × (c < channels w) × (from w c ≡ n) × (get_or ls (into w c) None ≡ Some l)
            → ((n j : ℕ) → get_or ls n None ≡ Some l → j ≤ l → (p : ℕ) × (get_or ls p None ≡ Some j)) → (p : ℕ) × (get_or ls p None ≡ Some j)
        at (inl q) p rest = (n, e ∙ ap Some (sym q))
        at (inr q) p rest = rest (into w p.0) j p.3 (omega arith)

    bounded : (n l : ℕ) → get_or ls n None ≡ Some l → l < w.nodes
    bounded n l e =
        let a = filled_all ls (suc l) (λ j b. lower l n j e (omega arith)) in
        let b = filled_most ls (suc l) in
        let c = h.long in
        omega arith

-- what the levels of a wiring keep
pub record Leveled (w : Topology) (root : ℕ) (ls : List (Option ℕ)) : Type 0 where
  pub long : length ls ≡ w.nodes
  pub start : get_or ls root None ≡ Some 0
  pub only : (n : ℕ) → get_or ls n None ≡ Some 0 → n ≡ root
  pub bound : (n l : ℕ) → get_or ls n None ≡ Some l → l < w.nodes
  pub prev : (n j : ℕ) → get_or ls n None ≡ Some (suc j) → (c : ℕ) × (c < channels w) × (from w c ≡ n) × (get_or ls (into w c) None ≡ Some j)
  pub closed : (c l : ℕ) → c < channels w → get_or ls (into w c) None ≡ Some l → AtMost ls (from w c) (suc l)

pub leveled : (w : Topology) (root : ℕ) → Inside w → root < w.nodes → Leveled w root (levels w root)
leveled w root inside r = record {
  long = all.long;
  start = all.start;
  only = all.only;
  prev = all.prev;
  bound = λ n l e. most n l e;
  closed = λ c l a e. all.closed c l a e (most (into w c) l e);
}
  where
    all : Mid w root w.nodes 0 (levels w root)
    all = subst (λ k. Mid w root k 0 (levels w root)) (omega arith) (rounds w root inside r)

    most : (n l : ℕ) → get_or (levels w root) n None ≡ Some l → l < w.nodes
    most n l e = bounded w root inside r (levels w root) all n l e

-- ---- what the levels say

module _ (w : Topology) (root : ℕ) (ls : List (Option ℕ)) (h : Leveled w root ls) where
  -- levels are least: no walk to the root is shorter
  pub level_least : {n : ℕ} {cs : List ℕ} → Walk w root n cs → AtMost ls n (length cs)
  level_least arrived = (0, h.start, omega arith)
  level_least (along {c} {cs} a v) =
      let p = level_least v in
      let q = h.closed c p.0 a p.1 in
      let x = p.2 in
      let y = q.2 in
      (q.0, q.1, omega arith)

  -- and some walk has the length of the level
  pub level_walk : (l n : ℕ) → get_or ls n None ≡ Some l → (cs : List ℕ) × Walk w root n cs × (length cs ≡ l)
  level_walk zero n e = ([], subst (λ x. Walk w root x []) (sym (h.only n e)) arrived, refl)
  level_walk (suc l) n e =
      let p = h.prev n l e in
      let r = level_walk l (into w p.0) p.3 in
      (p.0 ∷ r.0, subst (λ x. Walk w root x (p.0 ∷ r.0)) p.2 (along p.1 r.1), ap suc r.2)

  pub level_here : (n l : ℕ) → get_or ls n None ≡ Some l → n < w.nodes
  level_here n l e = at (cases_lt n (length ls))
    where
      at : (n < length ls) ⊎ (length ls ≤ n) → n < w.nodes
      at (inl a) = let b = h.long in omega arith
      at (inr a) = absurd (none_some (get_or_past ls n None a) e)

  -- where no level stands, no walk leads
  pub unjoined : (n : ℕ) → get_or ls n None ≡ None → Joined w n root → ⊥
  unjoined n e j = none_some e (level_least j.1).1

pub levels_leveled : (w : Topology) (root : ℕ) → Valid w → root < w.nodes → Leveled w root (levels w root)
levels_leveled w root v r = leveled w root (inside_of v) r

pub levels_long : (w : Topology) (root : ℕ) → Valid w → root < w.nodes → length (levels w root) ≡ w.nodes
levels_long w root v r = (levels_leveled w root v r).long

pub root_at_zero : (w : Topology) (root : ℕ) → Valid w → root < w.nodes → get_or (levels w root) root None ≡ Some 0
root_at_zero w root v r = (levels_leveled w root v r).start

-- every node of a valid wiring has a level below the number of nodes
pub level_of : (w : Topology) (root : ℕ) → Valid w → root < w.nodes → (n : ℕ) → n < w.nodes
    → (l : ℕ) × (get_or (levels w root) n None ≡ Some l) × (l < w.nodes)
level_of w root v r n a =
    let h = levels_leveled w root v r in
    let p = level_least w root (levels w root) h (joined_to w v n root a r).1 in
    (p.0, p.1, h.bound n p.0 p.1)

-- the test for nodes that are not joined is exact: of any wiring whose links stay inside, valid or not
pub none_unjoined : (w : Topology) (root : ℕ) → Inside w → root < w.nodes
    → (n : ℕ) → get_or (levels w root) n None ≡ None → Joined w n root → ⊥
none_unjoined w root inside r n e = unjoined w root (levels w root) (leveled w root inside r) n e

pub some_joined : (w : Topology) (root : ℕ) → Inside w → root < w.nodes
    → (n l : ℕ) → get_or (levels w root) n None ≡ Some l → Joined w n root
some_joined w root inside r n l e = let p = level_walk w root (levels w root) (leveled w root inside r) l n e in (p.0, p.1)
