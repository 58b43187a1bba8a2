-- The first thing found along a range.
use Rattle.std.proofs.Common.{◌≡◌, ℕ, zero, suc, ◌+◌, ◌<◌, ◌≤◌, true, false, not, Some, None, Ok, Err, Option, sym, refl, ap, ◌∙◌, ⊎_elim, arith}
use Rattle.std.proofs.lemmas.Bool.{cases_eq, not-true, not-false}
use Rattle.wiring.specs.Lists.{range, first_some}
use Rattle.plan_check.proofs.SearchedLaws.{none_found, all_none}
use Rattle.fault.specs.declared.faults.Fault.{Fault}
use Rattle.fault.specs.Faults.{judged}
use Rattle.fault.specs.declared.faults.Fault.TheVariants.{Cycle as CycleFault}
use Rattle.wiring.specs.Topologies.{Topology, all_nodes}
use Rattle.plan_check.specs.Rules.{cell_fault, layer_fault, deps_in}
use Rattle.wiring.specs.Tables.{Table}
use Rattle.plan_check.specs.Cycles.{acyclic}
use Rattle.plan_check.specs.Rules.{first_fault}
use Rattle.plan_check.specs.Rules.{Sound}

module _ {Y : Type 0} (f : ℕ → Option Y) where
  pub found_from : (i n k : ℕ) (y : Y) → i ≤ k → k < i + n → ((j : ℕ) → i ≤ j → j < k → f j ≡ None) → f k ≡ Some y → first_some f (range i n) ≡ Some y
  found_from i zero k y l h b q = absurd (omega arith)
  found_from i (suc n) k y l h b q =
      ⊎_elim
      (λ e. let here : f i ≡ Some y = ap f (sym e) ∙ q in rw here)
      (λ ne. rw (b i (omega arith) (omega arith)) (found_from (suc i) n k y (omega arith) (omega arith) (λ j m o. b j (omega arith) o) q))
      (cases_eq k i)

  pub found_at : (n k : ℕ) (y : Y) → k < n → ((j : ℕ) → j < k → f j ≡ None) → f k ≡ Some y → first_some f (range 0 n) ≡ Some y
  found_at n k y h b q = found_from 0 n k y (omega arith) (omega arith) (λ j m o. b j o) q

  pub found_none : (n : ℕ) → ((j : ℕ) → j < n → f j ≡ None) → first_some f (range 0 n) ≡ None
  found_none n b = none_found f 0 n (λ k l h. b k (omega arith))

-- nothing is found where a test lets pass
pub let_pass : (o : Option Fault) → Ok tt ≡ judged o → o ≡ None
let_pass None e = refl
let_pass (Some f) e = let z : ◌≡◌ {A = ℕ} 0 1 = cc in absurd (omega arith)

what_stops : (o : Option Fault) (x : Fault) → Err x ≡ judged o → o ≡ Some x
what_stops None x e = let z : ◌≡◌ {A = ℕ} 0 1 = cc in absurd (omega arith)
what_stops (Some f) x e = cc

-- tests one after the other, the first that does not let pass
module _ (f : ℕ → Option Fault) (n : ℕ) where
  pub stopped : (i : ℕ) (x : Fault) → i < n → ((j : ℕ) → j < i → f j ≡ None) → Err x ≡ judged (f i) → Err x ≡ judged (first_some f (range 0 n))
  stopped i x h before e = ap judged (sym (found_at f n i x h before (what_stops (f i) x e)))

  pub passed : ((j : ℕ) → j < n → f j ≡ None) → Ok tt ≡ judged (first_some f (range 0 n))
  passed all = ap judged (sym (found_none f n all))

module _ (w : Topology) (t : Table) where
  pub all_sound : None ≡ first_fault w t → Sound w t
  all_sound q d n h k = all_none (cell_fault w t d) 0 w.nodes (all_none (λ i. first_some (cell_fault w t i) (all_nodes w)) 0 w.nodes (sym q) d (omega arith) (omega arith)) n (omega arith) (omega arith)

  pub layer_faulty : (v : ℕ) → true ≡ not (acyclic (deps_in w t v)) → layer_fault w t v ≡ Some (CycleFault v)
  layer_faulty v q = rw (not-true (acyclic (deps_in w t v)) (sym q), layer_fault)

  pub layer_fine : (v : ℕ) → false ≡ not (acyclic (deps_in w t v)) → layer_fault w t v ≡ None
  layer_fine v q = rw (not-false (acyclic (deps_in w t v)) (sym q), layer_fault)
