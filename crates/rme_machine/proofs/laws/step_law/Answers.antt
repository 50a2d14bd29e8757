use Rattle.rme_machine.proofs.Own_step.{own_step}
use Rattle.rme_machine.proofs.laws.step_law.Goals as goal

pub returns : goal.returns
returns c = own_step
