use Rattle.std.proofs.Common.{ℕ, ◌<◌}
use Rattle.rme_tree.specs.Nodes.{held_levels_in}
use Rattle.rme_core_image_check.specs.Workers.{HeldLockIsCurrent}
use Rattle.rme_process_file.specs.ProcessFiles.{file_memory}
use Rattle.rme_process_file.specs.FileContents.{worker_words_in}
use Rattle.rme_process_file.proofs.process_file.ProcessFile.stray.Given as goal

abbrev pub invariant-loop-lock : goal.invariant-loop-lock
invariant-loop-lock l = (lock : ℕ) → lock < l.lock → HeldLockIsCurrent (worker_words_in l.self l.worker) (held_levels_in l.self.shape (file_memory l.self) l.worker) lock
