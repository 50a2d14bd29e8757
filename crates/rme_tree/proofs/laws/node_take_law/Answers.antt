use Rattle.rme_tree.proofs.Steps.{take}
use Rattle.rme_tree.proofs.laws.node_take_law.Goals as goal

pub returns : goal.returns
returns c = take
