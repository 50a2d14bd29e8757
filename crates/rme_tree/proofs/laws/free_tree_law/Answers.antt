use Rattle.rme_tree.proofs.Steps.{free_tree}
use Rattle.rme_tree.proofs.laws.free_tree_law.Goals as goal

pub returns : goal.returns
returns c = free_tree
