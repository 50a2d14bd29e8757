use Rattle.rme_machine.proofs.Taking.{taking}
use Rattle.rme_machine.proofs.laws.valid_load_law.Goals as goal

pub returns : goal.returns
returns c = taking
