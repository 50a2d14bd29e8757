use Rattle.std.proofs.Common.{ℕ, ◌<◌, ◌≤◌}
use Rattle.rme_words.specs.Words.{memory_of}
use Rattle.rme_tree.specs.HeldTrees.{IsLocalNode}
use Rattle.rme_tree.specs.Nodes.{lock_nodes}
use Rattle.rme_core_image_check.proofs.trees.is_local_tree.Given as goal

abbrev pub invariant-loop-node : goal.invariant-loop-node
invariant-loop-node l = (place : ℕ) → 1 ≤ place → place < l.node → IsLocalNode (lock_nodes (memory_of l.bank) l.lock) l.bank.shape.leaves l.bank.shape.workers place
