use Rattle.rme_tree.proofs.Steps.{path_law}
use Rattle.rme_tree.proofs.laws.path_law.Goals as goal

pub returns : goal.returns
returns c = path_law
