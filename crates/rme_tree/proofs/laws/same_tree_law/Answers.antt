use Rattle.rme_tree.proofs.Ownership.{same_tree}
use Rattle.rme_tree.proofs.laws.same_tree_law.Goals as goal

pub returns : goal.returns
returns c = same_tree
