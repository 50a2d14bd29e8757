use Rattle.std.proofs.Common.{ℕ, ◌<◌}
use Rattle.rme_words.specs.Words.{memory_of}
use Rattle.rme_tree.specs.HeldTrees.{IsLocalTree}
use Rattle.rme_tree.specs.Nodes.{lock_nodes}
use Rattle.rme_core_image_check.proofs.trees.has_nodes.Given as goal

abbrev pub invariant-loop-lock : goal.invariant-loop-lock
invariant-loop-lock l = (lock : ℕ) → lock < l.lock → IsLocalTree (lock_nodes (memory_of l.bank) lock) l.bank.shape.leaves l.bank.shape.workers
