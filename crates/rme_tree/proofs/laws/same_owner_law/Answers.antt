use Rattle.rme_tree.proofs.Steps.{same_owner}
use Rattle.rme_tree.proofs.laws.same_owner_law.Goals as goal

pub returns : goal.returns
returns c = same_owner
