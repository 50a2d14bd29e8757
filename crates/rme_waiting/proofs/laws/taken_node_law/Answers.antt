use Rattle.rme_waiting.proofs.Climbing.{taken_node}
use Rattle.rme_waiting.proofs.laws.taken_node_law.Goals as goal

pub returns : goal.returns
returns c = taken_node
