-- Plan sheets: what is read from one.
use Rattle.std.specs.Prelude.{ℕ, ◌+◌, ◌*◌, cond, ◌&&◌, List, length, Ok, Err, Result, ◌==◌}
use Rattle.fault.specs.declared.faults.Fault.{Fault}
use Rattle.fault.specs.declared.faults.Fault.TheVariants.{NodeCount, PlanSize}
use Rattle.wiring.specs.Lists.{unless, only_if}
use Rattle.wiring.specs.Soundness.{among}
use Rattle.wiring.specs.Tables.{Table}
use Rattle.wiring.specs.declared.table.Cell.{Cell}
use Rattle.wiring.specs.declared.table.Cell.TheVariants.{Empty, Hop}
use Rattle.sheet.specs.declared.plans.PlanSheet.{PlanSheet}
use Rattle.sheet.specs.Lines.{byte, line, body}
use Rattle.sheet.specs.Contents.{sheet_fault, plan_letters}

-- the number of nodes, and two bytes a cell, destination by destination and node by node within each
pub record Plan : Type 0 where
  pub nodes : ℕ
  pub cells : List ℕ

abbrev pub plan_of : PlanSheet → Plan
plan_of p = record { nodes = p.nodes; cells = p.cells.now }

abbrev pub plan_seen : Result PlanSheet Fault → Result Plan Fault
plan_seen (Ok p) = Ok (plan_of p)
plan_seen (Err f) = Err f

abbrev pub whole_plan : Plan → Result Plan Fault
whole_plan p = only_if (among 1 64 p.nodes) NodeCount (only_if (length p.cells == 2 * p.nodes * p.nodes) PlanSize (Ok p))

abbrev pub read_plan : List ℕ → Result Plan Fault
read_plan s = unless (sheet_fault plan_letters s) (whole_plan (record { nodes = byte (body s (line s 0)) 0; cells = body s (line s 1) }))

-- only 255, 255 is the empty cell
abbrev pub cell_of : ℕ → ℕ → Cell
cell_of c v = cond (c == 255 && v == 255) Empty (Hop c v)

abbrev pub cells_in : Plan → Table
cells_in p = λ d n. cell_of (byte p.cells (2 * (p.nodes * d + n))) (byte p.cells (2 * (p.nodes * d + n) + 1))
