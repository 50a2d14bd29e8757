use Rattle.rme_machine.proofs.Opening.{opening}
use Rattle.rme_machine.proofs.laws.opening_law.Goals as goal

pub returns : goal.returns
returns c = opening
