use Rattle.rme_words.specs.Words.{memory_of}
use Rattle.rme_tree.specs.Paths.{OwnsUpTo}
use Rattle.rme_tree.specs.Nodes.{lock_nodes}
use Rattle.rme_tree.proofs.owners.held.Given as goal

-- The levels so far have the worker's sides.
abbrev pub invariant-loop-below : goal.invariant-loop-below
invariant-loop-below l = OwnsUpTo (lock_nodes (memory_of l.bank) l.lock) l.bank.shape.leaves l.w l.below
