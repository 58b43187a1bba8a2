-- A wiring in which nothing is wrong is valid; and the node told as unjoined is the lowest that no walk joins to node 0.
use Rattle.std.proofs.Common.{◌≡◌, ℕ, zero, suc, ◌+◌, ◌-◌, ◌/◌, ◌%◌, ◌<◌, ◌≤◌, Bool, true, false, not, ◌&&◌, eqb, ltb, leb, ◌⊎◌, List, [], ◌∷◌, length, get_or, is_some, Some, None, Option, sym, refl, ap, ◌∙◌, subst, inl, inr, ⊎_elim, arith}
use Rattle.std.specs.Option.{option_map}
use Rattle.std.proofs.lemmas.Bool.{eqb-false, ne_eqb, eq-eqb, and_parts, cases_eq, not-true, cond-true, cond-false, ltb-true, leb-true, cases_Bool}
use Rattle.fault.specs.declared.faults.Fault.{Fault}
use Rattle.fault.specs.declared.faults.Fault.TheVariants.{BodySize, NodeCount, LayerCount, LinkEnds, Unjoined}
use Rattle.wiring.specs.Lists.{when_not, or_else}
use Rattle.wiring.specs.Topologies.{Topology, Joined, Valid, channels, from, into}
use Rattle.wiring.specs.Levels.{levels}
use Rattle.wiring.specs.Soundness.{among, fine_link, bad_link, unjoined, topology_fault, LowestUnjoined}
use Rattle.wiring.proofs.TopologyLaws.{Inside, first_that_some, first_found, none_some}
use Rattle.wiring.proofs.LevelLaws.{none_unjoined, some_joined}

-- tests in a row find nothing exactly where each passes
pub passed : {F : Type 0} (b : Bool) (f : F) (o : Option F) → when_not b f o ≡ None → (b ≡ true) × (o ≡ None)
passed true f o e = (refl, e)
passed false f o e = absurd (none_some e refl)

pub neither : {F : Type 0} (o p : Option F) → or_else o p ≡ None → (o ≡ None) × (p ≡ None)
neither None p e = (refl, e)
neither (Some f) p e = absurd (none_some e refl)

pub unmapped : {X Y : Type 0} (f : X → Y) (o : Option X) → option_map f o ≡ None → o ≡ None
unmapped f None e = refl
unmapped f (Some x) e = absurd (none_some e refl)

pub among_parts : (a b x : ℕ) → among a b x ≡ true → (a ≤ x) × (x ≤ b)
among_parts a b x e = let h = and_parts (leb a x) (leb x b) e in (leb-true a x h.0, leb-true x b h.1)

-- ---- ends

-- two nodes that differ
abbrev pub TwoEnds : ℕ → ℕ × ℕ → Type 0
TwoEnds n e = (e.0 < n) × (e.1 < n) × (e.0 ≡ e.1 → ⊥)

pub two_ends : (n : ℕ) (e : ℕ × ℕ) → fine_link n e ≡ true → TwoEnds n e
two_ends n e h =
    let b = and_parts (ltb e.0 n) (ltb e.1 n && not (eqb e.0 e.1)) h in
    let c = and_parts (ltb e.1 n) (not (eqb e.0 e.1)) b.1 in
    (ltb-true e.0 n b.0, ltb-true e.1 n c.0, eqb-false e.0 e.1 (not-true (eqb e.0 e.1) c.1))

pub links_fine : (n j : ℕ) (es : List (ℕ × ℕ)) → bad_link n j es ≡ None → (i : ℕ) (d : ℕ × ℕ) → i < length es → fine_link n (get_or es i d) ≡ true
links_fine n j [] h i d l = absurd (omega arith)
links_fine n j (e ∷ es) h i d l = at (fine_link n e) refl h (links_fine n (suc j) es) i l
  where
    at : (b : Bool) → fine_link n e ≡ b → (let r : Option ℕ = elim b [ true ↦ bad_link n (suc j) es | false ↦ Some j ] in r) ≡ None
        → (bad_link n (suc j) es ≡ None → (i : ℕ) (d : ℕ × ℕ) → i < length es → fine_link n (get_or es i d) ≡ true)
        → (i : ℕ) → i < suc (length es) → fine_link n (get_or (e ∷ es) i d) ≡ true
    at false p q rest i l = absurd (none_some q refl)
    at true p q rest zero l = p
    at true p q rest (suc i) l = rest q i d (omega arith)

-- an even channel runs from the first end of its link to the second, an odd one back
abbrev pub link_of : Topology → ℕ → ℕ × ℕ
link_of w c = get_or w.links (c / 2) (0, 0)

pub from_even : (w : Topology) (c : ℕ) → c % 2 ≡ 0 → from w c ≡ (link_of w c).0
from_even w c e = cond-true (eqb (c % 2) 0) _ _ (eq-eqb (c % 2) 0 e)

pub from_odd : (w : Topology) (c : ℕ) → c % 2 ≡ 1 → from w c ≡ (link_of w c).1
from_odd w c e = cond-false (eqb (c % 2) 0) _ _ (ne_eqb (c % 2) 0 (omega arith))

pub into_even : (w : Topology) (c : ℕ) → c % 2 ≡ 0 → into w c ≡ (link_of w c).1
into_even w c e =
    let f : (c + 1) / 2 ≡ c / 2 = omega arith in
    ap (from w) (cond-true (eqb (c % 2) 0) (c + 1) (c - 1) (eq-eqb (c % 2) 0 e)) ∙ from_odd w (c + 1) (omega arith) ∙ ap (λ i. (get_or w.links i (0, 0)).1) f

pub into_odd : (w : Topology) (c : ℕ) → c % 2 ≡ 1 → into w c ≡ (link_of w c).0
into_odd w c e =
    let f : (c - 1) / 2 ≡ c / 2 = omega arith in
    ap (from w) (cond-false (eqb (c % 2) 0) (c + 1) (c - 1) (ne_eqb (c % 2) 0 (omega arith))) ∙ from_even w (c - 1) (omega arith) ∙ ap (λ i. (get_or w.links i (0, 0)).0) f

channel_ends : (w : Topology) → bad_link w.nodes 0 w.links ≡ None → (c : ℕ) → c < channels w → (from w c < w.nodes) × (from w c ≡ into w c → ⊥)
channel_ends w h c l = ⊎_elim even odd cases
  where
    k : TwoEnds w.nodes (link_of w c)
    k = two_ends w.nodes (link_of w c) (links_fine w.nodes 0 w.links h (c / 2) (0, 0) (omega arith))

    cases : (c % 2 ≡ 0) ⊎ (c % 2 ≡ 1)
    cases = ⊎_elim (λ (e : c % 2 ≡ 0). inl e) (λ (e : c % 2 ≡ 0 → ⊥). inr (omega arith)) (cases_eq (c % 2) 0)

    even : c % 2 ≡ 0 → (from w c < w.nodes) × (from w c ≡ into w c → ⊥)
    even e = (subst (λ x. x < w.nodes) (sym (from_even w c e)) k.0, λ p. k.2 (sym (from_even w c e) ∙ p ∙ into_even w c e))

    odd : c % 2 ≡ 1 → (from w c < w.nodes) × (from w c ≡ into w c → ⊥)
    odd e = (subst (λ x. x < w.nodes) (sym (from_odd w c e)) k.1, λ p. k.2 (sym (into_odd w c e) ∙ sym p ∙ from_odd w c e))

-- ---- joined nodes

module _ (w : Topology) (inside : Inside w) (some : 0 < w.nodes) where
  abbrev lacks : ℕ → Bool
  lacks n = not (is_some (get_or (levels w 0) n None))

  has_level : (n : ℕ) (o : Option ℕ) → get_or (levels w 0) n None ≡ o → not (is_some o) ≡ false → Joined w n 0
  has_level n (Some l) e f = some_joined w 0 inside some n l e
  has_level n None e f = let z : ◌≡◌ {A = ℕ} 0 1 = cc in absurd (omega arith)

  has_none : (n : ℕ) (o : Option ℕ) → get_or (levels w 0) n None ≡ o → not (is_some o) ≡ true → Joined w n 0 → ⊥
  has_none n None e f j = none_unjoined w 0 inside some n e j
  has_none n (Some l) e f j = let z : ◌≡◌ {A = ℕ} 0 1 = cc in omega arith

  pub all_joined : unjoined w ≡ None → (n : ℕ) → n < w.nodes → Joined w n 0
  all_joined e n l = ⊎_elim (λ (t : lacks n ≡ true). absurd (let p = first_found lacks 0 w.nodes n (omega arith) (omega arith) t in none_some e p.1)) (λ (f : lacks n ≡ false). has_level n _ refl f) (cases_Bool (lacks n))

  pub lowest_unjoined : (n : ℕ) → unjoined w ≡ Some n → LowestUnjoined w n
  lowest_unjoined n e = let p = first_that_some lacks 0 w.nodes n e in
      record {
        node = let h = p.high in omega arith;
        apart = has_none n _ refl p.passes;
        lower = λ m l. has_level m _ refl (p.lowest m (omega arith) l);
      }

-- ---- both together

-- where nothing is wrong, every link is fine
pub links_sound : (w : Topology) → topology_fault w ≡ None → bad_link w.nodes 0 w.links ≡ None
links_sound w e =
    let a = passed (leb (length w.links) 120) (BodySize 0) _ e in
    let b = passed (among 1 64 w.nodes) NodeCount _ a.1 in
    let c = passed (among 1 8 w.layers) LayerCount _ b.1 in
    unmapped LinkEnds _ (neither (option_map LinkEnds (bad_link w.nodes 0 w.links)) (option_map Unjoined (unjoined w)) c.1).0

pub sound_valid : (w : Topology) → topology_fault w ≡ None → Valid w
sound_valid w e =
    let a = passed (leb (length w.links) 120) (BodySize 0) _ e in
    let b = passed (among 1 64 w.nodes) NodeCount _ a.1 in
    let c = passed (among 1 8 w.layers) LayerCount _ b.1 in
    let d = neither (option_map LinkEnds (bad_link w.nodes 0 w.links)) (option_map Unjoined (unjoined w)) c.1 in
    let n = among_parts 1 64 w.nodes b.0 in
    let v = among_parts 1 8 w.layers c.0 in
    let ends = channel_ends w (links_sound w e) in
    record {
      some_nodes = n.0;
      few_nodes = n.1;
      some_layers = v.0;
      few_layers = v.1;
      few_links = leb-true _ _ a.0;
      ends = ends;
      joined = all_joined w (λ c l. (ends c l).0) n.0 (unmapped Unjoined (unjoined w) d.1);
    }

-- where 8 is told, of that node
told_test : (b : Bool) (f g : Fault) (o : Option Fault) → when_not b f o ≡ Some g → (f ≡ g → ⊥) → (b ≡ true) × (o ≡ Some g)
told_test true f g o e n = (refl, e)
told_test false f g o e n = absurd (n cc)

told_link : (o : Option ℕ) (p : Option ℕ) (n : ℕ) → or_else (option_map LinkEnds o) (option_map Unjoined p) ≡ Some (Unjoined n) → (o ≡ None) × (p ≡ Some n)
told_link None None n e = let z : ◌≡◌ {A = ℕ} 0 1 = cc in absurd (omega arith)
told_link None (Some m) n e = let z : m ≡ n = cc in (refl, ap Some z)
told_link (Some j) p n e = let z : ◌≡◌ {A = ℕ} 0 1 = cc in absurd (omega arith)

pub told_unjoined : (w : Topology) (n : ℕ) → topology_fault w ≡ Some (Unjoined n) → LowestUnjoined w n
told_unjoined w n e =
    let a = told_test (leb (length w.links) 120) (BodySize 0) (Unjoined n) _ e (λ p. let z : ◌≡◌ {A = ℕ} 0 1 = cc in omega arith) in
    let b = told_test (among 1 64 w.nodes) NodeCount (Unjoined n) _ a.1 (λ p. let z : ◌≡◌ {A = ℕ} 0 1 = cc in omega arith) in
    let c = told_test (among 1 8 w.layers) LayerCount (Unjoined n) _ b.1 (λ p. let z : ◌≡◌ {A = ℕ} 0 1 = cc in omega arith) in
    let d = told_link (bad_link w.nodes 0 w.links) (unjoined w) n c.1 in
    let ends = channel_ends w d.0 in
    lowest_unjoined w (λ c l. (ends c l).0) (among_parts 1 64 w.nodes b.0).0 n d.1

-- where the numbers are in order, the links decide
