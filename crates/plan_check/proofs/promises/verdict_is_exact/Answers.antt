use Rattle.plan_check.proofs.CheckLaws.{verdict_exact}
use Rattle.plan_check.proofs.promises.verdict_is_exact.Goals as goal

pub returns : goal.returns
returns c = verdict_exact
