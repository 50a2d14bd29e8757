use Rattle.rme_machine.proofs.Further.{idling}
use Rattle.rme_machine.proofs.laws.ready_holds_no_node_law.Goals as goal

pub returns : goal.returns
returns c = idling
