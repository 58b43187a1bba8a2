-- What is wrong with the contents of a sheet, the lowest number first, and for one number the lowest line.
use Rattle.std.specs.Prelude.{◌≡◌, ℕ, zero, suc, ◌+◌, ◌-◌, ◌*◌, ◌<◌, Bool, true, false, ◌&&◌, List, [], ◌∷◌, length, Some, None, Option, ◌==◌, nat_lt, slice_index_or}
use Rattle.fault.specs.declared.faults.Fault.{Fault}
use Rattle.fault.specs.declared.faults.Fault.TheVariants.{Contents, Letter as LetterFault, BodyPlace, BodySize}
use Rattle.wiring.specs.Lists.{when_not, or_else}
use Rattle.sheet.specs.declared.letters.Letter.{Letter}
use Rattle.sheet.specs.declared.letters.Letter.TheVariants.{L, N, V, P}
use Rattle.sheet.specs.Letters.{code, fit_size}
use Rattle.sheet.specs.Lines.{byte, line}

-- a test of line i, for which a letter is due
abbrev pub Test : Type 0
Test = ℕ → Letter → Bool

abbrev pub has_letter : List ℕ → Test
has_letter s i x = (line s i).letter == code x

-- where the body of line i is due: where the last one ended, and the first at a given place; an end is a plain sum
abbrev pub due_at : ℕ → List ℕ → ℕ → ℕ
due_at first s zero = first
due_at first s (suc i) = due_at first s i + (line s i).size

abbrev pub in_place : ℕ → List ℕ → Test
in_place first s i x = (line s i).start == due_at first s i

abbrev pub has_size : List ℕ → Test
has_size s i x = fit_size x (line s i).size

-- the first line from i on that fails a test, for the letters that are still due
abbrev pub first_line : Test → (ℕ → Fault) → ℕ → List Letter → Option Fault
first_line test fault i [] = None
first_line test fault i (x ∷ xs) = when_not (test i x) (fault i) (first_line test fault (suc i) xs)

-- the bodies begin after the contents, and the last one ends the sheet
abbrev pub first_body : List Letter → ℕ
first_body due = 1 + 5 * length due

abbrev pub place_fault : List Letter → List ℕ → Option Fault
place_fault due s =
    or_else (first_line (in_place (first_body due) s) BodyPlace 0 due) (when_not (due_at (first_body due) s (length due) == length s) (BodyPlace (length due - 1)) None)

-- the first byte counts the lines, and all of them are there
abbrev pub all_there : List Letter → List ℕ → Bool
all_there due s = nat_lt (5 * length due) (length s) && byte s 0 == length due

abbrev pub sheet_fault : List Letter → List ℕ → Option Fault
sheet_fault due s =
    when_not (all_there due s) Contents
    (or_else (first_line (has_letter s) LetterFault 0 due) (or_else (place_fault due s) (first_line (has_size s) BodySize 0 due)))

abbrev pub wiring_letters : List Letter
wiring_letters = L ∷ N ∷ V ∷ []

abbrev pub plan_letters : List Letter
plan_letters = N ∷ P ∷ []

-- ---- what an answer says

abbrev pub Every : Test → List Letter → Type 0
Every test due = (i : ℕ) → i < length due → test i (slice_index_or due i L) ≡ true

-- line i fails, and no lower one
abbrev pub Lowest : Test → List Letter → ℕ → Type 0
Lowest test due i = (i < length due) × (test i (slice_index_or due i L) ≡ false) × ((j : ℕ) → j < i → test j (slice_index_or due j L) ≡ true)

pub record Whole (due : List Letter) (s : List ℕ) : Type 0 where
  pub room : 5 * length due < length s
  pub count : byte s 0 ≡ length due

abbrev pub Ended : List Letter → List ℕ → Type 0
Ended due s = due_at (first_body due) s (length due) ≡ length s

-- a sheet as it should be
pub record Fine (due : List Letter) (s : List ℕ) : Type 0 where
  pub whole : Whole due s
  pub letters : Every (has_letter s) due
  pub places : Every (in_place (first_body due) s) due
  pub ended : Ended due s
  pub sizes : Every (has_size s) due

-- why a fault is told, and that none is told of a sheet as it should be only
pub data Told (due : List Letter) (s : List ℕ) : Option Fault → Type 0 where
  cut_short : (Whole due s → ⊥) → Told due s (Some Contents)
  other_letter : (i : ℕ) → Whole due s → Lowest (has_letter s) due i → Told due s (Some (LetterFault i))
  out_of_place : (i : ℕ) → Whole due s → Every (has_letter s) due → Lowest (in_place (first_body due) s) due i → Told due s (Some (BodyPlace i))
  not_ended : Whole due s → Every (has_letter s) due → Every (in_place (first_body due) s) due → (Ended due s → ⊥) → Told due s (Some (BodyPlace (length due - 1)))
  other_size : (i : ℕ) → Whole due s → Every (has_letter s) due → Every (in_place (first_body due) s) due → Ended due s → Lowest (has_size s) due i → Told due s (Some (BodySize i))
  nothing : Fine due s → Told due s None
