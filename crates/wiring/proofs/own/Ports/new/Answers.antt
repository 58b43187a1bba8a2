use Rattle.std.proofs.Common.{◌+◌, sym, subst, arith}
use Rattle.wiring.specs.Owned.{Owns}
use Rattle.wiring.specs.Wirings.{topology}
use Rattle.wiring.proofs.HeldLaws.{valid}
use Rattle.wiring.proofs.LaidLaws.{laid_few, laid_short, few_channels, part_own, own_laws}
use Rattle.wiring.proofs.own.Ports.new.Goals as goal

pub invariant_of-result : goal.invariant_of-result
invariant_of-result c =
    let w = topology c.args.wiring.now in
    let begun = c.list_all.ensures.begun in
    record {
      room = c.list_all.array_long;
      nodes = c.list_all.array_long2;
      rises = λ n l. let a = begun n (omega arith) in let b = begun (n + 1) (omega arith) in let s = laid_short w n (n + 1) (omega arith) in omega arith;
      within = λ n l. let a = begun n l in let f = laid_few w n in let most = few_channels c.args.wiring.now in omega arith;
    }

pub returns : goal.returns
returns c =
    let v = c.args.wiring.now in
    let same = part_own v _ _ c.list_all.ensures.begun c.list_all.ensures.after in
    record { answer = same; exact = λ n. subst (Owns (topology v) n) (sym (same n)) (own_laws (topology v) (valid v) n) }
