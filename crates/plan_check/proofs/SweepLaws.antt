-- Channels that depend on nothing that is left are taken away: what is gone is on no cycle, and where nothing more can go, what is
-- left has one.
use Rattle.std.proofs.Common.{◌≡◌, ℕ, zero, suc, ◌+◌, ◌<◌, ◌≤◌, Bool, true, false, cond, ◌&&◌, not, List, [], ◌∷◌, length, get_or, set, replicate, count_by, sym, refl, ap, ◌∙◌, subst, ⊎_elim, zero-add, arith, below_more}
use Rattle.std.proofs.lemmas.List.Sums.{sum_by-set}
use Rattle.std.proofs.ByRecursion.{All-get_or}
use Rattle.std.proofs.lemmas.List.{get_or_default, get_or-set_same, get_or-set_other}
use Rattle.std.specs.List.{list_any, range_with_len}
use Rattle.std.proofs.lemmas.List.Folds.{Any-from_list_any, list_any_at}
use Rattle.std.proofs.lemmas.List.FromFn.{length-range_with_len, get_or-range_with_len}
use Rattle.std.proofs.lemmas.Bool.{cases_eq, and_parts, and_from, not-true, not_from_false, true_from_ne_false, false≢true, true≢false}
use Rattle.wiring.specs.Topologies.{Topology, channels, from, into}
use Rattle.wiring.specs.Owned.{Owns}
use Rattle.plan_check.specs.Cycles.{Deps, acyclic, Linked}
use Rattle.plan_check.specs.Marks.{mark, is_gone, Noted, Held, HeldAmong, FreeAmong, Stuck, Left, Grounded}
use Rattle.plan_check.proofs.CycleLaws.{Has, acyclic_if_no_cycle, depth, depth_falls}
use Rattle.plan_check.proofs.NotingLaws.{all_false}

-- ---- what the chains of the code find

module _ (es : List ℕ) (xs gone : List Bool) (c : ℕ) where
  abbrev pub holds : ℕ → Bool
  holds e = mark xs c e && not (is_gone gone e)

  held_among : list_any holds es ≡ true → HeldAmong es xs gone c
  held_among h =
      let a = Any-from_list_any holds es h in
      let same : get_or es a.0 0 ≡ a.1 = get_or_default es a.0 0 a.1 a.2 ∙ a.3 in
      let b = and_parts _ _ (ap holds same ∙ a.4) in
      (a.0, a.2, b.0, not-true _ b.1)

  free_among : list_any holds es ≡ false → FreeAmong es xs gone c (length es)
  free_among h i l m = true_from_ne_false _ (λ q. true≢false (sym (list_any_at holds es i 0 l (and_from _ _ m (not_from_false _ q))) ∙ h))

module _ (gone : List Bool) (n : ℕ) where
  abbrev pub stays : ℕ → Bool
  stays c = not (is_gone gone c)

  some_stays : list_any stays (range_with_len 0 n) ≡ true → Left gone n
  some_stays h =
      let a = Any-from_list_any stays (range_with_len 0 n) h in
      let size = length-range_with_len 0 n in
      let l : a.0 < n = (let m = a.2 in omega arith) in
      let same = get_or-range_with_len 0 n a.0 a.1 l in
      let at = a.3 in
      (a.1, omega arith, not-true _ a.4)

  none_stays : list_any stays (range_with_len 0 n) ≡ false → (c : ℕ) → c < n → is_gone gone c ≡ true
  none_stays h c l =
      let size = length-range_with_len 0 n in
      let same : get_or (range_with_len 0 n) c 0 ≡ c = get_or-range_with_len 0 n c 0 l ∙ zero-add c in
      true_from_ne_false _ (λ q. true≢false (sym (list_any_at stays (range_with_len 0 n) c 0 (omega arith) (ap stays same ∙ not_from_false _ q)) ∙ h))

-- ---- by own channels

module _ (w : Topology) (xs gone : List Bool) (c : ℕ) (es : List ℕ) (owns : Owns w (into w c) es) where
  -- what is held among the channels of the node where c ends is held
  pub held_own : list_any (holds es xs gone c) es ≡ true → Held w xs gone c
  held_own q =
      let h = held_among es xs gone c q in
      (get_or es h.0 0, (All-get_or (λ e. (e < channels w) × (from w e ≡ into w c)) es h.0 0 h.1 owns.start).0, h.2, h.3)

  -- and only those can hold it
  pub free_own : (D : Deps) → Noted w xs D → channels w ≤ 240 → list_any (holds es xs gone c) es ≡ false → (e : ℕ) → Has D c e → is_gone gone e ≡ true
  free_own D N few q e h =
      let f = N.follows c e h in
      let a = f.0 in
      let b = f.1 in
      let k = owns.every e b f.2 in
      let same : get_or es k.0 0 ≡ e = k.2 0 in
      subst (λ x. is_gone gone x ≡ true) same (free_among es xs gone c q k.0 k.1 (ap (mark xs c) same ∙ N.same c e (omega arith) (omega arith) ∙ h))

-- ---- what is gone

gone_on : (D : Deps) (gone : List Bool) → Grounded D gone → (c : ℕ) (cs : List ℕ) (z : ℕ) → is_gone gone c ≡ true → Linked (Has D) c cs z → is_gone gone z ≡ true
gone_on D gone g c [] z q l = (g c q).0 z l
gone_on D gone g c (x ∷ xs) z q l = gone_on D gone g x xs z ((g c q).0 x l.0) l.1

stays_gone : (gone : List Bool) (c e : ℕ) → c < length gone → is_gone gone e ≡ true → is_gone (set gone c true) e ≡ true
stays_gone gone c e h q = ⊎_elim (λ i. ap (is_gone (set gone c true)) i ∙ get_or-set_same gone c true false h) (λ ne. get_or-set_other gone c e true false ne ∙ q) (cases_eq e c)

grounded_more : (gone : List Bool) (D : Deps) (c : ℕ) → c < length gone → is_gone gone c ≡ false → ((e : ℕ) → Has D c e → is_gone gone e ≡ true) → Grounded D gone → Grounded D (set gone c true)
grounded_more gone D c l left next g x q = ⊎_elim here other (cases_eq x c)
  where
    no_way : (cs : List ℕ) → Linked (Has D) c cs c → ⊥
    no_way [] h = false≢true (sym left ∙ next c h)
    no_way (y ∷ ys) h = false≢true (sym left ∙ gone_on D gone g y ys c (next y h.0) h.1)

    keep : (e : ℕ) → is_gone gone e ≡ true → is_gone (set gone c true) e ≡ true
    keep e p = stays_gone gone c e l p

    here : x ≡ c → ((e : ℕ) → Has D x e → is_gone (set gone c true) e ≡ true) × ((cs : List ℕ) → Linked (Has D) x cs x → ⊥)
    here e = subst (λ (z : ℕ). ((e : ℕ) → Has D z e → is_gone (set gone c true) e ≡ true) × ((cs : List ℕ) → Linked (Has D) z cs z → ⊥)) (sym e) ((λ y h. keep y (next y h)), no_way)

    other : (x ≡ c → ⊥) → ((e : ℕ) → Has D x e → is_gone (set gone c true) e ≡ true) × ((cs : List ℕ) → Linked (Has D) x cs x → ⊥)
    other ne = let p = g x (sym (get_or-set_other gone c x true false ne) ∙ q) in ((λ e h. keep e (p.0 e h)), p.1)

left_falls : (gone : List Bool) (c : ℕ) → c < length gone → is_gone gone c ≡ false → count_by not (set gone c true) < count_by not gone
left_falls gone c h q =
    let one : ◌≡◌ {A = ℕ} (cond (not (get_or gone c false)) 1 0) 1 = ap (λ b. cond (not b) 1 0) q in
    let all : count_by not (set gone c true) + cond (not (get_or gone c false)) 1 0 ≡ count_by not gone + 0 = sum_by-set (λ (b : Bool). cond (not b) 1 0) gone c true false h in
    omega arith

-- ---- one sweep, channels below c looked at

pub record Sweeping (w : Topology) (xs was : List Bool) (c : ℕ) (gone : List Bool) (taken : Bool) : Type 0 where
  pub grounded : (D : Deps) → Noted w xs D → Grounded D was → Grounded D gone
  pub most : count_by not gone ≤ count_by not was
  pub fewer : taken ≡ true → count_by not gone < count_by not was
  pub held : taken ≡ false → (k : ℕ) → k < c → is_gone gone k ≡ false → Held w xs gone k

module _ (w : Topology) (xs was : List Bool) (c : ℕ) (gone : List Bool) (taken : Bool) (h : Sweeping w xs was c gone taken) where
  -- the channel stays, as it is gone or held
  pub sweep_stays : (is_gone gone c ≡ false → Held w xs gone c) → Sweeping w xs was (c + 1) gone taken
  sweep_stays here = record { grounded = h.grounded; most = h.most; fewer = h.fewer; held = λ e. below_more _ _ (h.held e) here }

  pub sweep_takes : c < length gone → is_gone gone c ≡ false → ((D : Deps) → Noted w xs D → (e : ℕ) → Has D c e → is_gone gone e ≡ true) → Sweeping w xs was (c + 1) (set gone c true) true
  sweep_takes l left next = let fall = left_falls gone c l left in let most = h.most in
      record {
        grounded = λ D N g. grounded_more gone D c l left (next D N) (h.grounded D N g);
        most = omega arith;
        fewer = λ e. omega arith;
        held = λ e. absurd (true≢false e);
      }

-- ---- both ends

first_below : (w : Topology) (xs : List Bool) (D : Deps) → Noted w xs D → (c : ℕ) (cs : List ℕ) (z : ℕ) → Linked (Has D) c cs z → c < channels w
first_below w xs D N c [] z l = (N.follows c z l).0
first_below w xs D N c (y ∷ ys) z l = (N.follows c y l.0).0

all_gone : (w : Topology) (xs gone : List Bool) (D : Deps) → Noted w xs D → Grounded D gone → ((c : ℕ) → c < channels w → is_gone gone c ≡ true) → acyclic D ≡ true
all_gone w xs gone D N g a = acyclic_if_no_cycle D (λ y. (g y.0 (a y.0 (first_below w xs D N y.0 y.1 y.0 y.2))).1 y.1 y.2)

descent : (w : Topology) (xs gone : List Bool) (D : Deps) → channels w ≤ 240 → Noted w xs D → Stuck w xs gone → acyclic D ≡ true → (k c : ℕ) → c < channels w → is_gone gone c ≡ false → depth D c < k → ⊥
descent w xs gone D m N s q zero c h p l = omega arith
descent w xs gone D m N s q (suc k) c h p l =
    let f = s c h p in
    let e : ℕ = f.0 in
    let u : e < channels w = f.1 in
    let has-it : Has D c e = sym (N.same c e (omega arith) (omega arith)) ∙ f.2 in
    let fall = depth_falls D q c e has-it in
    descent w xs gone D m N s q k e u f.3 (omega arith)

some_left : (w : Topology) (xs gone : List Bool) (D : Deps) → channels w ≤ 240 → Noted w xs D → Stuck w xs gone → (c : ℕ) → c < channels w → is_gone gone c ≡ false → acyclic D ≡ false
some_left w xs gone D m N s c h p = go (acyclic D) refl
  where
    go : (b : Bool) → acyclic D ≡ b → b ≡ false
    go true q = absurd (descent w xs gone D m N s q (suc (depth D c)) c h p (omega arith))
    go false q = refl

pub none_gone : (k : ℕ) (D : Deps) → Grounded D (replicate k false)
none_gone k D c q = absurd (false≢true (sym (all_false k c) ∙ q))

pub stays_answer : (w : Topology) (xs gone : List Bool) (D : Deps) (r : Bool) → channels w ≤ 240 → Noted w xs D → Stuck w xs gone → Grounded D gone → r ≡ list_any (stays gone (channels w)) (range_with_len 0 (channels w)) → r ≡ not (acyclic D)
stays_answer w xs gone D true m N s g e = let f = some_stays gone (channels w) (sym e) in sym (ap not (some_left w xs gone D m N s f.0 f.1 f.2))
stays_answer w xs gone D false m N s g e = sym (ap not (all_gone w xs gone D N g (none_stays gone (channels w) (sym e))))
