use Rattle.std.proofs.Common.{ℕ, ◌<◌, ◌≤◌}
use Rattle.rme_tree.specs.Nodes.{lock_nodes}
use Rattle.rme_tree.specs.HeldTrees.{IsLocalNode}
use Rattle.rme_process_file.specs.ProcessFiles.{file_memory}
use Rattle.rme_process_file.proofs.process_file.ProcessFile.bad_node.Given as goal

abbrev pub invariant-loop-node : goal.invariant-loop-node
invariant-loop-node l = (node : ℕ) → 1 ≤ node → node < l.node → IsLocalNode (lock_nodes (file_memory l.self) l.lock) l.self.shape.leaves l.self.shape.workers node
