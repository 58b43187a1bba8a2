use Rattle.std.proofs.Common.{ap}
use Rattle.fault.specs.Faults.{judged}
use Rattle.fault.specs.declared.faults.Fault.TheVariants.{Letter as LetterFault}
use Rattle.sheet.proofs.contents.Lines.check_letters.Goals as goal

pub returns-in-Some : goal.returns-in-Some
returns-in-Some c = ap judged (c.in-Some.ensures LetterFault)

pub returns-in-None : goal.returns-in-None
returns-in-None c = ap judged (c.in-None.ensures LetterFault)
