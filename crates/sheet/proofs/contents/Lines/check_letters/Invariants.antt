use Rattle.std.proofs.Common.{eqb}
use Rattle.sheet.specs.Letters.{code}
use Rattle.sheet.proofs.contents.Lines.check_letters.Given as goal

abbrev pub ghost-first_failing : goal.ghost-first_failing
ghost-first_failing a = λ x l. eqb l.letter (code x)
