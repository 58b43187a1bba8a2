use Rattle.std.proofs.Common.{◌+◌, ◌*◌, length, arith}
use Rattle.queue.proofs.OrderLaws.{compared, first_of_two, won}
use Rattle.queue.proofs.sifting.first_child.Goals as goal
use Rattle.queue.proofs.sifting.first_child.Goals.{else-right-run-via-then-right-run+else-comes_sooner, else-right-run-via-else-right-run}

pub returns-then-comes_sooner-clause-best : goal.returns-then-comes_sooner-clause-best
returns-then-comes_sooner-clause-best g c =
    let xs = c.args.run.now in
    first_of_two g.K.Ord.cmp g.met.K.Ord.total xs c.args.parent _ _ (length xs)
    (λ d _. won g.K.Ord.cmp g.met.K.Ord.total xs _ _ c.if-comes_sooner.ensures d)
    (omega arith) (omega arith) (omega arith)

pub returns-clause-best : goal.returns-clause-best
returns-clause-best g c =
    let xs = c.args.run.now in
    elim c.else-right-run.branch [
      | else-right-run-via-then-right-run+else-comes_sooner w ↦ first_of_two g.K.Ord.cmp g.met.K.Ord.total xs c.args.parent _ _ (length xs) (λ d _. compared g.K.Ord.cmp xs _ _ _ w.if-comes_sooner.ensures d) (omega arith) (omega arith) (omega arith)
      | else-right-run-via-else-right-run w ↦ first_of_two g.K.Ord.cmp g.met.K.Ord.total xs c.args.parent _ (c.args.parent * 2 + 2) (length xs) (λ d l. absurd (omega (arith, w.if-right-run.false))) (omega arith) (omega arith) (omega arith)
    ]
