use Rattle.plan_check.proofs.RouteLaws.{routes_arrive}
use Rattle.plan_check.proofs.promises.routes_arrive.Goals as goal

pub returns : goal.returns
returns c = routes_arrive
