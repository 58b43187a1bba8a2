-- Costs stay in their bounds: zero does, and a step does.
use Rattle.std.specs.Prelude.{ℕ, ◌+◌, ◌≤◌, ◌<◌, ◌≡◌, refl, Bool, true, false, cond, ltb}
use Rattle.std.proofs.Common.{arith, ltb-true}
use Rattle.cost.specs.Steps.{most_hops, most_load, up_to, loaded}

pub zero_fits : (most : ℕ) → 0 ≤ most
zero_fits most = omega arith

pub up_to_fits : (most x n : ℕ) → up_to most x n ≤ most
up_to_fits most x n = omega arith

pub loaded_fits : (h x n : ℕ) → loaded h x n ≤ most_load
loaded_fits h x n = by (ltb (h + 1) most_hops)
  where
    by : (b : Bool) → cond b (up_to most_load x n) most_load ≤ most_load
    by true = omega arith
    by false = omega arith

-- hops of the greatest number go only with the greatest load
pub zero_spent : most_hops ≤ 0 → ◌≡◌ {A = ℕ} 0 most_load
zero_spent h = absurd (omega arith)

pub loaded_spent : (h x n : ℕ) → most_hops ≤ up_to most_hops h 1 → loaded h x n ≡ most_load
loaded_spent h x n full = by (ltb (h + 1) most_hops) refl
  where
    by : (b : Bool) → ltb (h + 1) most_hops ≡ b → cond b (up_to most_load x n) most_load ≡ most_load
    by true e = let l : h + 1 < most_hops = ltb-true (h + 1) most_hops e in absurd (omega arith)
    by false e = refl
