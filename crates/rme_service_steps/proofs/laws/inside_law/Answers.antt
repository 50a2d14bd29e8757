use Rattle.rme_service_steps.proofs.laws.inside_law.Goals as goal
use Rattle.rme_service_steps.proofs.Inside.{inside}

pub returns : goal.returns
returns c = inside
