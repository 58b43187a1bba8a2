-- Places of cards, card by card.
use Rattle.std.proofs.Common.{◌≡◌, ℕ, zero, suc, ◌+◌, ◌*◌, ◌<◌, Bool, true, false, cond, ◌&&◌, eqb, ltb, List, length, get_or, set, replicate, refl, ap, ◌∙◌, ap₂, arith}
use mathlib.Core.Path.{fun_ext}
use Rattle.std.proofs.lemmas.List.{get_or-set_same, get_or-set_other}
use Rattle.std.proofs.lemmas.Bool.{lt-ltb, ltb-true, eqb-true, eqb-false, cond_both}
use Rattle.wiring.specs.declared.table.Cell.{Cell}
use Rattle.wiring.specs.declared.table.Cell.TheVariants.{Empty}
use Rattle.wiring.specs.Topologies.{Topology, starts}
use Rattle.cards.specs.Decks.{changed, grid}
use Rattle.cards.specs.Makings.{made_view}
use Rattle.cards.specs.Views.{cards_view}

-- a write at one place is read there, and nowhere else
module _ {X : Type 0} (z : X) (xs : List X) (n d : ℕ) (x : X) (nh : n < 64) (dh : d < 64) (room : 64 * n + d < length xs) where
  at : (m e : ℕ) → grid z (set xs (64 * n + d) x) m e ≡ changed (grid z xs) n d x m e
  at m e = go (ltb m 64) (ltb e 64) (eqb m n) (eqb e d) refl refl refl refl
    where
      go : (a b u v : Bool) → ltb m 64 ≡ a → ltb e 64 ≡ b → eqb m n ≡ u → eqb e d ≡ v
          → cond (a && b) (get_or (set xs (64 * n + d) x) (64 * m + e) z) z ≡ cond (u && v) x (cond (a && b) (get_or xs (64 * m + e) z) z)
      go true true true true p q r s = ap (λ i. get_or (set xs (64 * n + d) x) i z) (omega (arith, eqb-true m n r, eqb-true e d s)) ∙ get_or-set_same xs (64 * n + d) x z room
      go true true true false p q r s = get_or-set_other xs (64 * n + d) (64 * m + e) x z (λ h. eqb-false e d s (omega (arith, eqb-true m n r)))
      go true true false v p q r s = get_or-set_other xs (64 * n + d) (64 * m + e) x z (λ h. eqb-false m n r (omega (arith, ltb-true e 64 q)))
      go true false true true p q r s = let l = lt-ltb d 64 dh in let k = eqb-true e d s in let y : ◌≡◌ {A = ℕ} 0 1 = cc in absurd (omega arith)
      go true false true false p q r s = refl
      go true false false v p q r s = refl
      go false b true true p q r s = let l = lt-ltb n 64 nh in let k = eqb-true m n r in let y : ◌≡◌ {A = ℕ} 0 1 = cc in absurd (omega arith)
      go false b true false p q r s = refl
      go false b false v p q r s = refl

  pub grid_set : grid z (set xs (64 * n + d) x) ≡ changed (grid z xs) n d x
  grid_set = fun_ext (λ m. fun_ext (λ e. at m e))

same : {X : Type 0} (x : X) (k i : ℕ) → get_or (replicate k x) i x ≡ x
same x zero i = refl
same x (suc k) zero = refl
same x (suc k) (suc i) = same x k i

pub grid_none : {X : Type 0} (z : X) (k : ℕ) → grid z (replicate k z) ≡ λ n d. z
grid_none {X} z k = fun_ext (λ n. fun_ext (λ d. cond_both (ltb n 64 && ltb d 64) (get_or (replicate k z) (64 * n + d) z) z (λ (y : X). y ≡ z) (λ _. same z k (64 * n + d)) (λ _. refl)))

pub gates_shut : (k : ℕ) → ◌≡◌ {A = ℕ → Bool} (λ n. get_or (replicate k false) n false) (λ n. false)
gates_shut k = fun_ext (λ n. same false k n)

-- the view of cards as they are made
pub made_is : (w : Topology) (nodes : ℕ) (owned : ℕ → ℕ → Bool) (held : ℕ → ℕ → Cell) → nodes ≡ w.nodes → owned ≡ (λ n c. starts w c n) → held ≡ (λ n d. Empty) → cards_view nodes (replicate 64 false) owned held ≡ made_view w
made_is w nodes owned held e o f =
    ap₂ (λ (n : ℕ) (h : ℕ → ℕ → Cell). cards_view n (replicate 64 false) owned h) e f
    ∙ ap₂ (λ (u : ℕ → ℕ → Bool) (g : ℕ → Bool). record { seated = λ n. ltb n w.nodes; own = u; gate = g; cell = λ n d. Empty }) o (gates_shut 64)
