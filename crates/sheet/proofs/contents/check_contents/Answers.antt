use Rattle.std.proofs.Common.{◌≡◌, rules}
use Rattle.fault.specs.Faults.{judged}
use Rattle.sheet.specs.Contents.{sheet_fault}
use Rattle.sheet.proofs.ContentsLaws.{told_judged}
use Rattle.sheet.proofs.contents.check_contents.Goals as goal

pub returns-in_err-new : goal.returns-in_err-new
returns-in_err-new c =
    let answer : c.from_residual.result ≡ judged (sheet_fault c.args.due.now c.args.sheet.now) = search rules in
    record { answer = answer; told = told_judged c.args.due.now c.args.sheet.now _ answer }

pub returns : goal.returns
returns c =
    let answer : c.check.result ≡ judged (sheet_fault c.args.due.now c.args.sheet.now) = search rules in
    record { answer = answer; told = told_judged c.args.due.now c.args.sheet.now _ answer }
