-- What a reader of a sheet stands for.
use Rattle.std.specs.Prelude.{ℕ, List}
use Rattle.sheet.specs.declared.reading.Reader.{Reader}

-- the sheet that is read
abbrev pub sheet_of : Reader → List ℕ
sheet_of r = r.sheet.now

-- what is left of it after the lines that were read
abbrev pub rest_of : Reader → List ℕ
rest_of r = r.rest.now
