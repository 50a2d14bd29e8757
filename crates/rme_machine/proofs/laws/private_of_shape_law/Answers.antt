use Rattle.rme_machine.proofs.Further.{fitting}
use Rattle.rme_machine.proofs.laws.private_of_shape_law.Goals as goal

pub returns : goal.returns
returns c = fitting
