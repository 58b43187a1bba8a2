use Rattle.std.proofs.Common.{rules}
use Rattle.wiring.specs.Lists.{range}
use Rattle.sheet.specs.Written.{row_bytes}
use Rattle.sheet.proofs.PlanLaws.{length_row}
use Rattle.sheet.proofs.writing.write_table.Goals as goal

pub returns : goal.returns
returns g c =
    let t = g.T.Cells.meant c.args.cells.now in
    c.write_parts.ensures (λ d. row_bytes t d (range 0 c.args.nodes)) (λ i part r after h. search rules) (λ d. length_row t d 0 c.args.nodes)
