use Rattle.std.proofs.Common.{◌-◌}
use Rattle.rme_words.proofs.Growth.{Growing}
use Rattle.rme_words.proofs.shape.tree_over.Given as goal

abbrev pub invariant-loop-leaves : goal.invariant-loop-leaves
invariant-loop-leaves l = Growing l.workers l.leaves l.height

abbrev pub decreases-loop-leaves : goal.decreases-loop-leaves
decreases-loop-leaves l = l.workers - l.leaves
