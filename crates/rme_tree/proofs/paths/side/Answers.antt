use Rattle.rme_tree.specs.Paths.{node, side}
use Rattle.rme_tree.proofs.paths.side.Goals as goal

pub returns-clause-side : goal.returns-clause-side
unfolding node side
returns-clause-side c = c.from.ensures
