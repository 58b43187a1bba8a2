-- Plan sheets: the one sheet of a plan, and what writing it leaves.
use Rattle.std.specs.Prelude.{◌≡◌, ℕ, ◌+◌, ◌*◌, ◌/◌, ◌%◌, ◌<◌, cond, ◌&&◌, List, [], ◌∷◌, ◌++◌, length, take, drop, Ok, Err, Result, ◌≢◌, nat_le}
use Rattle.std.specs.List.{flat_map}
use Rattle.fault.specs.declared.faults.Fault.{Fault}
use Rattle.fault.specs.declared.faults.Fault.TheVariants.{NodeCount, ShortMemory}
use Rattle.wiring.specs.Lists.{range, only_if}
use Rattle.wiring.specs.Soundness.{among}
use Rattle.wiring.specs.Tables.{Table}
use Rattle.wiring.specs.declared.table.Cell.{Cell}
use Rattle.wiring.specs.declared.table.Cell.TheVariants.{Empty, Hop}
use Rattle.sheet.specs.Plans.{Plan, read_plan, cells_in}

abbrev pub cell_bytes : Cell → List ℕ
cell_bytes Empty = 255 ∷ 255 ∷ []
cell_bytes (Hop c v) = c ∷ v ∷ []

abbrev pub row_bytes : Table → ℕ → List ℕ → List ℕ
row_bytes t d ns = flat_map (λ n. cell_bytes (t d n)) ns

abbrev pub table_bytes : Table → List ℕ → List ℕ → List ℕ
table_bytes t ns ds = flat_map (λ d. row_bytes t d ns) ds

-- the count of lines, the lines N and P, and the body of N
abbrev pub plan_head : ℕ → List ℕ
plan_head n = 2 ∷ 78 ∷ 0 ∷ 11 ∷ 0 ∷ 1 ∷ 80 ∷ 0 ∷ 12 ∷ (2 * n * n) / 256 ∷ (2 * n * n) % 256 ∷ n ∷ []

-- the one sheet of a plan for n nodes
abbrev pub plan_sheet : ℕ → Table → List ℕ
plan_sheet n t = plan_head n ++ table_bytes t (range 0 n) (range 0 n)

abbrev pub need : ℕ → ℕ
need n = 12 + 2 * n * n

-- what writing a plan for n nodes into so much room answers, and what the memory holds afterwards
abbrev pub write_answer : ℕ → ℕ → Result ℕ Fault
write_answer n room = only_if (among 1 64 n) NodeCount (only_if (nat_le (need n) room) (ShortMemory (need n)) (Ok (need n)))

abbrev pub write_after : ℕ → Table → List ℕ → List ℕ
write_after n t m = cond (among 1 64 n && nat_le (need n) (length m)) (plan_sheet n t ++ drop (need n) m) m

-- no cell is filled with the bytes of the empty cell
abbrev pub Writable : ℕ → Table → Type 0
Writable n t = (d m : ℕ) → d < n → m < n → t d m ≢ Hop 255 255

-- the plan has these cells for n nodes
abbrev pub Gives : ℕ → Table → Result Plan Fault → Type 0
Gives n t (Ok p) = (p.nodes ≡ n) × ((d m : ℕ) → d < n → m < n → cells_in p d m ≡ t d m)
Gives n t (Err f) = ⊥

-- a table that is written reads back
abbrev pub ReadsBack : ℕ → Table → Result ℕ Fault → List ℕ → Type 0
ReadsBack n t r m = (k : ℕ) → r ≡ Ok k → Writable n t → Gives n t (read_plan (take k m))

-- a plan has one sheet
abbrev pub OneSheet : Result Plan Fault → List ℕ → Type 0
OneSheet r s = (p : Plan) → r ≡ Ok p → plan_sheet p.nodes (cells_in p) ≡ s
