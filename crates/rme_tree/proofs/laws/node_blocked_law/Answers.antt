use Rattle.rme_tree.proofs.Steps.{blocked}
use Rattle.rme_tree.proofs.laws.node_blocked_law.Goals as goal

pub returns : goal.returns
returns c = blocked
