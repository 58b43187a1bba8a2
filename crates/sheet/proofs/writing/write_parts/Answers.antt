use Rattle.std.proofs.Common.{◌∙◌, arith}
use Rattle.sheet.proofs.WriteLaws.{begun_more, begun_all}
use Rattle.sheet.proofs.writing.write_parts.Goals as goal

pub loop-i-preserved : goal.loop-i-preserved
loop-i-preserved g c = λ bytes answers widths. begun_more bytes c.args.width c.args.count c.loop-i.i _ c.loop-i.memory _ c.loop-i-test.true (c.loop-i.auto.memory ∙ c.requires.size) (answers _ _ _ _ c.write.ensures) (widths c.loop-i.i) (c.loop-i.invariant bytes answers widths)

pub returns : goal.returns
returns g c = λ bytes answers widths. begun_all bytes c.args.width c.args.count c.loop-i.i c.loop-i.memory (omega arith) (c.loop-i.auto.memory ∙ c.requires.size) (c.loop-i.invariant bytes answers widths)
