use Rattle.rme_machine.proofs.Reached.{exclusion}
use Rattle.rme_machine.proofs.laws.exclusion.Goals as goal

pub returns : goal.returns
returns c = exclusion
