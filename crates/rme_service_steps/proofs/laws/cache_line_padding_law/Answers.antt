use Rattle.rme_service_steps.proofs.laws.cache_line_padding_law.Goals as goal
use Rattle.rme_service_steps.proofs.Positions.{gaps}

pub returns : goal.returns
returns c = gaps
