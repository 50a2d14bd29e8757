use Rattle.std.proofs.Common.{◌-◌}
use Rattle.rme_words.specs.Words.{memory_of}
use Rattle.rme_tree.specs.Nodes.{lock_nodes}
use Rattle.rme_tree.proofs.Descent.{Came}
use Rattle.rme_tree.proofs.owners.holder.Given as goal

-- The holder's path, if there is one, passes the node.
abbrev pub invariant-loop-below : goal.invariant-loop-below
invariant-loop-below l = Came (lock_nodes (memory_of l.bank) l.lock) l.bank.shape.leaves l.bank.shape.height l.place l.below

abbrev pub decreases-loop-below : goal.decreases-loop-below
decreases-loop-below l = l.bank.shape.leaves - l.below
