use Rattle.rme_tree.proofs.Memory.{store_law}
use Rattle.rme_tree.proofs.laws.node_store_law.Goals as goal

pub returns : goal.returns
returns c = store_law
