use Rattle.plan_check.proofs.PacketLaws.{no_deadlock}
use Rattle.plan_check.proofs.promises.no_packets_wait_in_a_circle.Goals as goal

pub returns : goal.returns
returns c = no_deadlock
