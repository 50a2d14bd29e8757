use Rattle.rme_tree.proofs.Ownership.{owner_law}
use Rattle.rme_tree.proofs.laws.owner_law.Goals as goal

pub returns : goal.returns
returns c = owner_law
