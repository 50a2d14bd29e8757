use Rattle.rme_tree.proofs.Local.{local_law}
use Rattle.rme_tree.proofs.laws.local_tree_law.Goals as goal

pub returns : goal.returns
returns c = local_law
