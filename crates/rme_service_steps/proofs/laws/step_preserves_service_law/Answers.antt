use Rattle.rme_service_steps.proofs.laws.step_preserves_service_law.Goals as goal
use Rattle.rme_service_steps.proofs.Keeping.{keeps}

pub returns : goal.returns
returns c = keeps
