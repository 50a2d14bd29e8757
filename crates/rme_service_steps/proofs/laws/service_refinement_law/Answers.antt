use Rattle.rme_service_steps.proofs.laws.service_refinement_law.Goals as goal
use Rattle.rme_service_steps.proofs.Running.{running}

pub returns : goal.returns
returns c = running
