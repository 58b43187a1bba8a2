-- The letters of contents lines, and the sections that they name.
use Rattle.std.specs.Prelude.{ℕ, ◌%◌, Bool, true, cond, ◌&&◌, List, Some, None, Option, ◌==◌, nat_le}
use Rattle.sheet.specs.declared.letters.Letter.{Letter}
use Rattle.sheet.specs.declared.letters.Letter.TheVariants.{L, N, V, P}
use Rattle.sheet.specs.declared.sections.Section.{Section}

-- the byte of a letter
abbrev pub code : Letter → ℕ
code L = 76
code N = 78
code V = 86
code P = 80

abbrev pub letter_of : ℕ → Option Letter
letter_of b = cond (b == 76) (Some L) (cond (b == 78) (Some N) (cond (b == 86) (Some V) (cond (b == 80) (Some P) None)))

-- the lengths of a body that its letter allows: P is held to the number of nodes later
abbrev pub fit_size : Letter → ℕ → Bool
fit_size L l = l % 2 == 0 && nat_le l 240
fit_size N l = l == 1
fit_size V l = l == 1
fit_size P l = true

-- what a section is: its letter, where its body starts in the sheet, and its body
pub record Part : Type 0 where
  pub letter : Letter
  pub place : ℕ
  pub body : List ℕ

abbrev pub part_of : Section → Part
part_of s = record { letter = s.letter; place = s.place; body = s.body.now }
