use Rattle.rme_waiting.proofs.Climbing.{blocked_step}
use Rattle.rme_waiting.proofs.laws.blocked_step_law.Goals as goal

pub returns : goal.returns
returns c = blocked_step
