use Rattle.sheet.specs.Letters.{fit_size}
use Rattle.sheet.proofs.contents.Lines.check_sizes.Given as goal

abbrev pub ghost-first_failing : goal.ghost-first_failing
ghost-first_failing a = λ x l. fit_size x l.size
