use Rattle.rme_tree.proofs.Holding.{held_same}
use Rattle.rme_tree.proofs.laws.same_levels_law.Goals as goal

pub returns : goal.returns
returns c = held_same
