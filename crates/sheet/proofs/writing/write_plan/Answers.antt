use Rattle.std.proofs.Common.{◌≤◌, arith, rules}
use Rattle.sheet.proofs.WriteLaws.{accepted, written, reads_back}
use Rattle.sheet.proofs.writing.write_plan.Goals as goal

pub returns : goal.returns
returns g c =
    let n = c.args.nodes in
    let t = g.T.Cells.meant c.args.cells.now in
    let m = c.args.memory.now in
    let low : 1 ≤ n = search rules in
    let high : n ≤ 64 = search rules in
    record {
      answer = accepted n t m low high (omega arith);
      after = written n t m low high (omega arith) _ _ _ (omega arith) c.write_head.ensures c.write_table.ensures;
      reads_back = reads_back n t m low high (omega arith) _ _ _ (omega arith) c.write_head.ensures c.write_table.ensures;
    }
