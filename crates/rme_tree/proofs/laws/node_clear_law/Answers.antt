use Rattle.rme_tree.proofs.Steps.{clear}
use Rattle.rme_tree.proofs.laws.node_clear_law.Goals as goal

pub returns : goal.returns
returns c = clear
