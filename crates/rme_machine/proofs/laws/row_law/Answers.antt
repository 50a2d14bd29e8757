use Rattle.rme_machine.proofs.Rowed.{rowed}
use Rattle.rme_machine.proofs.laws.row_law.Goals as goal

pub returns : goal.returns
returns c = rowed
