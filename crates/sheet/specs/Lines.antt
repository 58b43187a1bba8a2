-- The contents lines of a sheet, and the bodies that they name.
use Rattle.std.specs.Prelude.{ℕ, ◌+◌, ◌*◌, cond, List, [], length, take, drop, Some, None, Option, nat_le, nat_lt, slice_index}
use Rattle.std.specs.Option.{option_map}
use Rattle.sheet.specs.declared.letters.Letter.{Letter}
use Rattle.sheet.specs.declared.reading.Line.{Line}
use Rattle.sheet.specs.Letters.{Part, letter_of}

abbrev pub byte : List ℕ → ℕ → ℕ
byte s i = slice_index s i

-- a line: a letter, a start in two bytes and a length in two, high byte first
abbrev pub front : List ℕ → Line
front s = record { letter = byte s 0; start = 256 * byte s 1 + byte s 2; size = 256 * byte s 3 + byte s 4 }

-- the line at the front, where a whole one is left, and what is left after it
abbrev pub next_line : List ℕ → Option Line
next_line s = cond (nat_lt (length s) 5) None (Some (front s))

abbrev pub after_line : List ℕ → List ℕ
after_line s = cond (nat_lt (length s) 5) s (drop 5 s)

-- line i of a sheet
abbrev pub line : List ℕ → ℕ → Line
line s i = front (drop (5 * i + 1) s)

abbrev pub body : List ℕ → Line → List ℕ
body s l = take l.size (drop l.start s)

-- the section that a line names, where it has a known letter and a body inside the sheet
abbrev pub section : List ℕ → Line → Option Part
section s l = cond (nat_le (l.start + l.size) (length s)) (option_map (λ (x : Letter). record { letter = x; place = l.start; body = body s l }) (letter_of l.letter)) None

abbrev pub next_section : List ℕ → List ℕ → Option Part
next_section s rest = cond (nat_lt (length rest) 5) None (section s (front rest))

abbrev pub body_in : Option Part → List ℕ
body_in (Some p) = p.body
body_in None = []

abbrev pub next_body : List ℕ → List ℕ → List ℕ
next_body s rest = body_in (next_section s rest)
