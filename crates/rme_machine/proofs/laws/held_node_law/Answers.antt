use Rattle.rme_machine.proofs.Further.{blocking}
use Rattle.rme_machine.proofs.laws.held_node_law.Goals as goal

pub returns : goal.returns
returns c = blocking
