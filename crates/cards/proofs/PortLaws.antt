-- Ports.
use Rattle.std.proofs.Common.{◌≡◌, ℕ, zero, suc, option_map, position, ◌==◌, ◌+◌, ◌-◌, ◌<◌, ◌≤◌, Bool, true, false, cond, ◌&&◌, eqb, ltb, List, [], ◌∷◌, length, get_or, take, drop, is_some, Some, None, Option, sym, refl, ap, ◌∙◌, subst, add-one, arith}
use mathlib.Core.Path.{fun_ext}
use Rattle.std.specs.List.{position_from}
use Rattle.std.proofs.lemmas.Iterator.Adapters.{position_from-zero}
use Rattle.std.proofs.ByRecursion.{All-get_or}
use Rattle.std.proofs.lemmas.List.{length-take, length-drop}
use Rattle.std.proofs.lemmas.Bool.{cond_both, eq-eqb, eqb-true, and_from, and_parts, lt-ltb, ltb-true, both_ways}
use Rattle.wiring.specs.declared.own.Ports.{Ports}
use Rattle.wiring.specs.declared.table.Cell.{Cell}
use Rattle.wiring.specs.declared.table.Cell.TheVariants.{Hop}
use Rattle.wiring.specs.Spans.{owned}
use Rattle.wiring.specs.Owned.{own}
use Rattle.wiring.specs.Topologies.{Topology, Valid, channels, from, starts}
use Rattle.wiring.proofs.LaidLaws.{own_laws}
use Rattle.cards.specs.declared.ports.PortCell.{PortCell}
use Rattle.cards.specs.Decks.{changed, Holds}
use Rattle.cards.specs.Porting.{port_from, port_of, meant_by, standing_by}

-- ---- the search for a port

-- the port is the place, counted from 1
port_placed : (c i : ℕ) (es : List ℕ) → port_from i es c ≡ option_map suc (position_from (λ x. x == c) i es)
port_placed c i [] = refl
port_placed c i (x ∷ xs) = at (x == c) (port_placed c (suc i) xs ∙ ap (λ j. option_map suc (position_from (λ x. x == c) j xs)) (sym (add-one i)))
  where
    at : (b : Bool) → port_from (suc i) xs c ≡ option_map suc (position_from (λ x. x == c) (i + 1) xs) → cond b (Some (suc i)) (port_from (suc i) xs c) ≡ option_map suc (cond b (Some i) (position_from (λ x. x == c) (i + 1) xs))
    at true rest = refl
    at false rest = rest

pub port_is_place : (es : List ℕ) (c : ℕ) → port_of es c ≡ option_map suc (position (λ x. x == c) es)
port_is_place es c = port_placed c 0 es ∙ ap (option_map suc) (sym (position_from-zero (λ x. x == c) es))

-- a channel's port is its place
found_from : (i : ℕ) (es : List ℕ) (c p : ℕ) → port_from i es c ≡ Some p → (k : ℕ) × (k < length es) × (get_or es k 0 ≡ c) × (p ≡ suc (i + k))
found_from i [] c p e = let z : ◌≡◌ {A = ℕ} 0 1 = cc in absurd (omega arith)
found_from i (x ∷ xs) c p e = at (eqb x c) refl e (found_from (suc i) xs c p)
  where
    at : (b : Bool) → eqb x c ≡ b → cond b (Some (suc i)) (port_from (suc i) xs c) ≡ Some p → (port_from (suc i) xs c ≡ Some p → (k : ℕ) × (k < length xs) × (get_or xs k 0 ≡ c) × (p ≡ suc (suc i + k))) → (k : ℕ) × (k < suc (length xs)) × (get_or (x ∷ xs) k 0 ≡ c) × (p ≡ suc (i + k))
    at true q e rest = let z : suc i ≡ p = cc in (0, omega arith, eqb-true x c q, omega arith)
    at false q e rest = let r = rest e in let l = r.1 in let h = r.3 in (suc r.0, omega arith, r.2, omega arith)

pub port_reads : (es : List ℕ) (c p : ℕ) → port_of es c ≡ Some p → get_or es (p - 1) 0 ≡ c
port_reads es c p e =
    let r = found_from 0 es c p e in
    let h = r.3 in
    let q : p - 1 ≡ r.0 = omega arith in
    ap (λ i. get_or es i 0) q ∙ r.2

has_port : (i : ℕ) (es : List ℕ) (c k : ℕ) → k < length es → get_or es k 0 ≡ c → is_some (port_from i es c) ≡ true
has_port i [] c k l e = absurd (omega arith)
has_port i (x ∷ xs) c zero l e = rw (eq-eqb x c e) refl
has_port i (x ∷ xs) c (suc k) l e = let rest = has_port (suc i) xs c k (omega arith) e in cond_both (eqb x c) (Some (suc i)) (port_from (suc i) xs c) (λ (o : Option ℕ). is_some o ≡ true) (λ _. refl) (λ _. rest)

some_port : (es : List ℕ) (c : ℕ) (o : Option ℕ) → port_of es c ≡ o → is_some o ≡ true → (k : ℕ) × (k < length es) × (get_or es k 0 ≡ c)
some_port es c (Some p) e t = let r = found_from 0 es c p e in (r.0, r.1, r.2)
some_port es c None e t = let z : ◌≡◌ {A = ℕ} 0 1 = cc in absurd (omega arith)

-- ---- a card's ports are its own channels

same_bool : (a b : Bool) → (a ≡ true → b ≡ true) → (b ≡ true → a ≡ true) → a ≡ b
same_bool true b f g = sym (f refl)
same_bool false true f g = g refl
same_bool false false f g = refl

pub ported_own : (w : Topology) → Valid w → (n c : ℕ) → is_some (port_of (own w n) c) ≡ starts w c n
ported_own w ok n c = same_bool _ _ there back
  where
    there : is_some (port_of (own w n) c) ≡ true → starts w c n ≡ true
    there t =
        let k = some_port (own w n) c (port_of (own w n) c) refl t in
        let h = All-get_or (λ e. (e < channels w) × (from w e ≡ n)) (own w n) k.0 0 k.1 (own_laws w ok n).start in
        and_from (ltb c (channels w)) (eqb (from w c) n) (lt-ltb _ _ (subst (λ x. x < channels w) k.2 h.0)) (eq-eqb _ _ (ap (from w) (sym k.2) ∙ h.1))

    back : starts w c n ≡ true → is_some (port_of (own w n) c) ≡ true
    back t =
        let p = and_parts (ltb c (channels w)) (eqb (from w c) n) t in
        let k = (own_laws w ok n).every c (ltb-true _ _ p.0) (eqb-true _ _ p.1) in
        has_port 0 (own w n) c k.0 k.1 (k.2 0)

-- ---- one cell changed

module _ (own : ℕ → List ℕ) (held : ℕ → ℕ → Option PortCell) (n d : ℕ) (kept : Option PortCell) (x : Cell) (is : meant_by (own n) kept ≡ x) where
  at : (m e : ℕ) → standing_by own (changed held n d kept) m e ≡ changed (standing_by own held) n d x m e
  at m e = go (eqb m n) (eqb e d) refl
    where
      go : (u v : Bool) → eqb m n ≡ u → meant_by (own m) (cond (u && v) kept (held m e)) ≡ cond (u && v) x (meant_by (own m) (held m e))
      go true true q = ap (λ i. meant_by (own i) kept) (eqb-true m n q) ∙ is
      go true false q = refl
      go false v q = refl

  pub standing_changed : standing_by own (changed held n d kept) ≡ changed (standing_by own held) n d x
  standing_changed = fun_ext (λ m. fun_ext (λ e. at m e))

pub few_owned : (p : Ports) (n : ℕ) → length (owned p n) ≤ 240
few_owned p n = cond_both (ltb n 64) (take (get_or p.begins (n + 1) 0 - get_or p.begins n 0) (drop (get_or p.begins n 0) p.channels)) [] (λ (xs : List ℕ). length xs ≤ 240)
    (λ _. let r = p.room in simp (length-take, length-drop) (omega arith)) (λ _. omega arith)

-- a channel without a port is not own
pub unported : (own : List ℕ) (cell : Cell) (c v : ℕ) → cell ≡ Hop c v → None ≡ port_of own c → Holds (λ c. is_some (port_of own c)) cell → ⊥
unported own cell c v e n h = both_ways (is_some (port_of own c)) (ap is_some (sym n)) (subst (λ (x : Cell). Holds (λ c. is_some (port_of own c)) x) e h)

-- ports laid out from a wiring
pub owned_by_ports : (w : Topology) → Valid w → (p : Ports) → ((n : ℕ) → owned p n ≡ own w n) → ◌≡◌ {A = ℕ → ℕ → Bool} (λ n c. is_some (port_of (owned p n) c)) (λ n c. starts w c n)
owned_by_ports w ok p same = fun_ext (λ n. fun_ext (λ c. ap (λ (xs : List ℕ). is_some (port_of xs c)) (same n) ∙ ported_own w ok n c))
