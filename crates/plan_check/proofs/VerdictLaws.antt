-- What the answer of the check says.
use Rattle.std.proofs.Common.{◌≡◌, ℕ, List, Some, None, Ok, Err, sym, refl, ap, ◌∙◌}
use Rattle.std.proofs.lemmas.Bool.{eq-eqb}
use Rattle.fault.specs.declared.faults.Fault.{Fault}
use Rattle.wiring.specs.Tables.{Table}
use Rattle.wiring.specs.Topologies.{Topology, Valid}
use Rattle.sheet.specs.Plans.{Plan, read_plan, cells_in}
use Rattle.sheet.specs.Wirings.{read_wiring}
use Rattle.wiring.specs.Lists.{range, first_some}
use Rattle.plan_check.specs.Rules.{first_fault, layer_fault, verdict, Passes}
use Rattle.fault.specs.Faults.{judged}
use Rattle.plan_check.specs.Verdicts.{Judged, check_answer, Exact, Arrives, Moves}
use Rattle.plan_check.proofs.CheckLaws.{verdict_exact}
use Rattle.plan_check.proofs.FirstLaws.{let_pass}
use Rattle.plan_check.proofs.RouteLaws.{routes_arrive}
use Rattle.plan_check.proofs.PacketLaws.{no_deadlock}

-- what an answer says that is the verdict on a valid wiring
module _ (w : Topology) (t : Table) (ok : Valid w) (r : Judged) (is : r ≡ judged (verdict w t)) where
  pass : r ≡ Ok tt → Passes w t
  pass f = (verdict_exact w t ok).0 (let_pass _ (sym f ∙ is))

  pub judged_exact : Exact w t r
  judged_exact = (pass, λ p. is ∙ ap judged ((verdict_exact w t ok).1 p))

  pub judged_arrives : Arrives w t r
  judged_arrives f = routes_arrive w t ok (pass f)

  pub judged_moves : Moves w t r
  judged_moves f = no_deadlock w t ok (pass f)

-- a faulty cell decides, and after all cells the layers
module _ (w : Topology) (t : Table) where
  pub cell_decides : (f : Fault) → first_fault w t ≡ Some f → Err f ≡ judged (verdict w t)
  cell_decides f e = rw (e, verdict) refl

  pub layers_decide : first_fault w t ≡ None → judged (first_some (layer_fault w t) (range 0 w.layers)) ≡ judged (verdict w t)
  layers_decide e = rw (e, verdict) refl

-- both sheets are read, and for one number of nodes
pub sheets_judged : (ws ps : List ℕ) (w : Topology) (p : Plan) → Ok w ≡ read_wiring ws → Ok p ≡ read_plan ps → p.nodes ≡ w.nodes → judged (verdict w (cells_in p)) ≡ check_answer ws ps
sheets_judged ws ps w p a b e = let same = eq-eqb p.nodes w.nodes e in rw (← a, ← b, same)
