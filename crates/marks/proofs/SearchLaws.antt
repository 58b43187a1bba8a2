-- The steps of a search along used dependencies.
use Rattle.std.proofs.Common.{◌≡◌, ℕ, ◌+◌, ◌-◌, ◌<◌, ◌≤◌, Bool, true, false, cond, not, eqb, ◌⊎◌, List, [], ◌∷◌, ◌++◌, length, get_or, set, replicate, Some, None, count_by, sym, refl, ap, ◌∙◌, subst, inl, inr, ⊎_elim, arith, below_more}
use Rattle.std.proofs.lemmas.List.{get_or-set_same, get_or-set_other, length-replicate}
use Rattle.std.proofs.lemmas.List.Sums.{sum_by-set, count_by-le-length}
use Rattle.std.proofs.lemmas.Bool.{cases_eq, cases_lt, both_ways, eqb-true, eqb-false}
use Rattle.std.proofs.ByRecursion.{All-get_or}
use Rattle.wiring.specs.Topologies.{Topology, channels, from, into}
use Rattle.wiring.specs.Owned.{Owns}
use Rattle.plan_check.specs.Cycles.{Linked}
use Rattle.plan_check.proofs.CycleLaws.{linked_join}
use Rattle.plan_check.proofs.NotingLaws.{all_false}
use Rattle.marks.specs.declared.visits.Visits.{Visits}
use Rattle.marks.specs.declared.kinds.Mark.TheVariants.{Used}
use Rattle.marks.specs.Marked.{View}
use Rattle.marks.specs.Searches.{Reach, Next, Seen, unseen, Stacked, last_stacked, Grown, Known}

-- ---- counting what is not seen

pub unseen_set : (seen : List Bool) (c : ℕ) → c < length seen → get_or seen c false ≡ false → count_by not (set seen c true) + 1 ≡ count_by not seen
unseen_set seen c h q =
    let one : ◌≡◌ {A = ℕ} (cond (not (get_or seen c false)) 1 0) 1 = ap (λ b. cond (not b) 1 0) q in
    let all : count_by not (set seen c true) + cond (not (get_or seen c false)) 1 0 ≡ count_by not seen + 0 = sum_by-set (λ (b : Bool). cond (not b) 1 0) seen c true false h in
    omega arith

-- at a search's begin there is room for all the others
pub room_begun : (e : ℕ) → e < 240 → 1 + count_by not (set (replicate 240 false) e true) ≤ 240
room_begun e l =
    let long = length-replicate 240 false in
    let fall = unseen_set (replicate 240 false) e (omega arith) (all_false 240 e) in
    let most = count_by-le-length not (replicate 240 false) in
    omega arith

-- ---- going on

pub grown_none : (P : ℕ → Type 0) (s : Visits) → Grown P s s
grown_none P s = record {
  keeps = λ y h. h;
  below = λ j l. refl;
  more = omega arith;
  above = λ j l m. absurd (omega arith);
  new = λ y h. inl h;
  sum = refl;
}

pub grown_map : (P Q : ℕ → Type 0) → ((y : ℕ) → P y → Q y) → (s t : Visits) → Grown P s t → Grown Q s t
grown_map P Q f s t g = record {
  keeps = g.keeps;
  below = g.below;
  more = g.more;
  above = g.above;
  new = λ y h. ⊎_elim inl (λ p. inr (f y p.0, p.1)) (g.new y h);
  sum = g.sum;
}

pub grown_join : (P : ℕ → Type 0) (s t u : Visits) → Grown P s t → Grown P t u → Grown P s u
grown_join P s t u g h = record {
  keeps = λ y k. h.keeps y (g.keeps y k);
  below = λ j l. h.below j (let m = g.more in omega arith) ∙ g.below j l;
  more = let m = g.more in let n = h.more in omega arith;
  above = λ j l m. ⊎_elim (λ k. subst (λ (x : ℕ). Seen u x) (sym (h.below j k)) (h.keeps _ (g.above j l k))) (λ k. h.above j k m) (cases_lt j t.count);
  new = λ y k. ⊎_elim (λ i. ⊎_elim inl (λ p. inr (p.0, (p.1.0, (let m = h.more in let n = p.1.1 in omega arith), h.below p.1.0 p.1.1 ∙ p.1.2))) (g.new y i)) inr (h.new y k);
  sum = h.sum ∙ g.sum;
}

-- one channel more is seen
module _ (s t : Visits) (c : ℕ) (lc : c < 240) (q : get_or s.seen c false ≡ false) (seen-is : t.seen ≡ set s.seen c true) (stack_is : t.stack ≡ set s.stack s.count c) (count-is : t.count ≡ s.count + 1) where
  fits : c < length s.seen
  fits = let l = s.sizes.0 in omega arith

  one_less : count_by not (set s.seen c true) + 1 ≡ count_by not s.seen
  one_less = unseen_set s.seen c fits q

  stack_fits : s.count < length s.stack
  stack_fits = let l = s.sizes.1 in let r = s.room in let f = one_less in omega arith

  now_seen : Seen t c
  now_seen = ap (λ l. get_or l c false) seen-is ∙ get_or-set_same s.seen c true false fits

  still_seen : (y : ℕ) → (y ≡ c → ⊥) → get_or t.seen y false ≡ get_or s.seen y false
  still_seen y ne = ap (λ l. get_or l y false) seen-is ∙ get_or-set_other s.seen c y true false ne

  on_top : get_or t.stack s.count 0 ≡ c
  on_top = ap (λ l. get_or l s.count 0) stack_is ∙ get_or-set_same s.stack s.count c 0 stack_fits

  under : (j : ℕ) → j < s.count → get_or t.stack j 0 ≡ get_or s.stack j 0
  under j l = ap (λ k. get_or k j 0) stack_is ∙ get_or-set_other s.stack s.count j c 0 (λ z. let l = l in omega arith)

  pub grown_one : Grown (λ y. y ≡ c) s t
  grown_one = record {
    keeps = λ y h. ⊎_elim (λ z. subst (λ (x : ℕ). Seen t x) (sym z) now_seen) (λ ne. still_seen y ne ∙ h) (cases_eq y c);
    below = under;
    more = omega arith;
    above = λ j l m. let top : j ≡ s.count = omega arith in subst (λ (x : ℕ). Seen t x) (sym (ap (λ i. get_or t.stack i 0) top ∙ on_top)) now_seen;
    new = λ y h. ⊎_elim (λ z. inr (z, (s.count, omega arith, on_top ∙ sym z))) (λ ne. inl (sym (still_seen y ne) ∙ h)) (cases_eq y c);
    sum = let f = one_less in let p : unseen t ≡ count_by not (set s.seen c true) = ap (count_by not) seen-is in omega arith;
  }

-- ---- the own channels of the node where x ends, looked at one by one

-- the first i of the channels os are looked at
abbrev pub Looked : Topology → View → ℕ → List ℕ → Visits → Visits → ℕ → Type 0
Looked w v x os s t i = Grown (Next w v x) s t × ((j : ℕ) → j < i → v x (get_or os j 0) ≡ Used → Seen t (get_or os j 0))

module _ (w : Topology) (v : View) (x n : ℕ) (os : List ℕ) (at : n ≡ into w x) (owns : Owns w n os) where
  starts_there : (i : ℕ) → i < length os → (get_or os i 0 < channels w) × (from w (get_or os i 0) ≡ n)
  starts_there i l = All-get_or (λ c. (c < channels w) × (from w c ≡ n)) os i 0 l owns.start

  pub own_below : channels w ≤ 240 → (i : ℕ) → i < length os → get_or os i 0 < 240
  own_below few i l = let h = (starts_there i l).0 in omega arith

  pub looked_used : (s t u : Visits) (i : ℕ) → i < length os → v x (get_or os i 0) ≡ Used → Looked w v x os s t i → Grown (λ y. y ≡ get_or os i 0) t u → Seen u (get_or os i 0) → Looked w v x os s u (i + 1)
  looked_used s t u i l q h g f = (
    grown_join (Next w v x) s t u h.0 (grown_map (λ y. y ≡ get_or os i 0) (Next w v x) (λ y z. subst (λ (k : ℕ). Next w v x k) (sym z) (q, (starts_there i l).0, (starts_there i l).1 ∙ at)) t u g),
    below_more _ _ (λ j k z. g.keeps _ (h.1 j k z)) (λ z. f),
  )

  pub looked_other : (s t : Visits) (i : ℕ) → (v x (get_or os i 0) ≡ Used → ⊥) → Looked w v x os s t i → Looked w v x os s t (i + 1)
  looked_other s t i ne h = (h.0, below_more _ _ h.1 (λ z. absurd (ne z)))

  -- nothing else can be next
  pub looked_all : (s t : Visits) (i : ℕ) → length os ≤ i → Looked w v x os s t i → (y : ℕ) → Next w v x y → Seen t y
  looked_all s t i l h y z =
      let k = owns.every y z.1 (z.2 ∙ sym at) in
      let same : get_or os k.0 0 ≡ y = k.2 0 in
      let below = k.1 in
      subst (λ (a : ℕ). Seen t a) same (h.1 k.0 (omega arith) (ap (v x) same ∙ z.0))

-- ---- the channel taken

pub taken_none : (s : Visits) → None ≡ last_stacked s → s.count ≡ 0
taken_none s q = go (eqb s.count 0) refl q
  where
    go : (b : Bool) → eqb s.count 0 ≡ b → None ≡ cond b None (Some (get_or s.stack (s.count - 1) 0)) → s.count ≡ 0
    go true z h = eqb-true s.count 0 z
    go false z h = absurd (let o : ◌≡◌ {A = ℕ} 0 1 = cc in omega arith)

pub taken_some : (s : Visits) (x : ℕ) → Some x ≡ last_stacked s → (0 < s.count) × (get_or s.stack (s.count - 1) 0 ≡ x)
taken_some s x q = go (eqb s.count 0) refl q
  where
    go : (b : Bool) → eqb s.count 0 ≡ b → Some x ≡ cond b None (Some (get_or s.stack (s.count - 1) 0)) → (0 < s.count) × (get_or s.stack (s.count - 1) 0 ≡ x)
    go true z h = absurd (let o : ◌≡◌ {A = ℕ} 0 1 = cc in omega arith)
    go false z h = (⊎_elim (λ k. k) (λ k. absurd (eqb-false s.count 0 z (omega arith))) (cases_lt 0 s.count), cc)

-- ---- the whole search

reach_more : (R : ℕ → ℕ → Type 0) (e x y : ℕ) → Reach R e x → R x y → Reach R e y
reach_more R e x y (inl q) r = inr ([], subst (λ (u : ℕ). R u y) (sym q) r)
reach_more R e x y (inr l) r = inr (l.0 ++ x ∷ [], linked_join R e l.0 x [] y l.1 r)

pub known_begin : (R : ℕ → ℕ → Type 0) (e : ℕ) (s : Visits) → e < 240 → s.seen ≡ set (replicate 240 false) e true → get_or s.stack 0 0 ≡ e → s.count ≡ 1 → Known R e s
known_begin R e s le seen-is top count-is = record {
  start = start;
  led = λ y h. inl (sym (only y h));
  stacked = λ j l. let first : j ≡ 0 = omega arith in subst (λ (u : ℕ). Seen s u) (sym (ap (λ i. get_or s.stack i 0) first ∙ top)) start;
  closed = λ x y h r. inr (0, omega arith, top ∙ sym (only x h));
}
  where
    start : Seen s e
    start = ap (λ l. get_or l e false) seen-is ∙ get_or-set_same (replicate 240 false) e true false (let h = length-replicate 240 false in omega arith)

    only : (y : ℕ) → Seen s y → y ≡ e
    only y h = ⊎_elim (λ q. q) (λ ne. absurd (both_ways _ (all_false 240 y) (sym (ap (λ l. get_or l y false) seen-is ∙ get_or-set_other (replicate 240 false) e y true false ne) ∙ h))) (cases_eq y e)

-- the channel at the top is taken, and all that it leads to is seen
module _ (R : ℕ → ℕ → Type 0) (e x : ℕ) (s t u : Visits) (seen-is : t.seen ≡ s.seen) (stack_is : t.stack ≡ s.stack) (count-is : t.count + 1 ≡ s.count) (top : get_or s.stack t.count 0 ≡ x) (k : Known R e s) (g : Grown (R x) t u) (f : (y : ℕ) → R x y → Seen u y) where
  keeps : (y : ℕ) → Seen s y → Seen u y
  keeps y h = g.keeps y (ap (λ l. get_or l y false) seen-is ∙ h)

  new : (y : ℕ) → Seen u y → Seen s y ⊎ (R x y × Stacked u y)
  new y h = ⊎_elim (λ i. inl (ap (λ l. get_or l y false) (sym seen-is) ∙ i)) inr (g.new y h)

  same : (j : ℕ) → j < t.count → get_or u.stack j 0 ≡ get_or s.stack j 0
  same j l = g.below j l ∙ ap (λ i. get_or i j 0) stack_is

  turn : (a y : ℕ) → R a y → Stacked s a → Seen u y ⊎ Stacked u a
  turn a y r (j, l, i) = ⊎_elim (λ m. inr (j, (let n = g.more in omega arith), same j m ∙ i)) (λ m. inl (f y (subst (λ (z : ℕ). R z y) (sym i ∙ ap (λ z. get_or s.stack z 0) (last j l m) ∙ top) r))) (cases_lt j t.count)
    where
      last : (j : ℕ) → j < s.count → t.count ≤ j → j ≡ t.count
      last j l m = omega arith

  pub known_step : Known R e u
  known_step = record {
    start = keeps e k.start;
    led = λ y h. ⊎_elim (k.led y) (λ p. reach_more R e x y (k.led x (subst (λ (z : ℕ). Seen s z) top (k.stacked t.count (omega arith)))) p.0) (new y h);
    stacked = λ j l. ⊎_elim (λ m. subst (λ (z : ℕ). Seen u z) (sym (same j m)) (keeps _ (k.stacked j (omega arith)))) (λ m. g.above j m l) (cases_lt j t.count);
    closed = λ a y h r. ⊎_elim (λ i. ⊎_elim (λ z. inl (keeps y z)) (turn a y r) (k.closed a y i r)) (λ p. inr p.1) (new a h);
  }

-- nothing left to look at: what is seen is closed
seen_on : (R : ℕ → ℕ → Type 0) (e : ℕ) (s : Visits) → s.count ≡ 0 → Known R e s → (x : ℕ) (cs : List ℕ) (z : ℕ) → Seen s x → Linked R x cs z → Seen s z
seen_on R e s none k x [] z h r = ⊎_elim (λ i. i) (λ t. absurd (let l = t.1 in omega arith)) (k.closed x z h r)
seen_on R e s none k x (y ∷ ys) z h r = seen_on R e s none k y ys z (⊎_elim (λ i. i) (λ t. absurd (let l = t.1 in omega arith)) (k.closed x y h r.0)) r.1

pub known_end : (R : ℕ → ℕ → Type 0) (e : ℕ) (s : Visits) (c : ℕ) → s.count ≡ 0 → Known R e s → Reach R e c → Seen s c
known_end R e s c none k (inl q) = subst (λ (z : ℕ). Seen s z) q k.start
known_end R e s c none k (inr l) = seen_on R e s none k e l.0 c k.start l.1
