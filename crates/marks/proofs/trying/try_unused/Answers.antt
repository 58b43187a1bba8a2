use Rattle.marks.proofs.trying.try_unused.Goals as goal

pub returns-then-use_unless_closing-clause-after : goal.returns-then-use_unless_closing-clause-after
returns-then-use_unless_closing-clause-after c = c.use_unless_closing.ensures.kept c.if-use_unless_closing.true
