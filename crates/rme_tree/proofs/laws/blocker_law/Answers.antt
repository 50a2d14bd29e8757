use Rattle.rme_tree.proofs.Holders.{blocker_law}
use Rattle.rme_tree.proofs.laws.blocker_law.Goals as goal

pub returns : goal.returns
returns c = blocker_law
