use Rattle.std.proofs.Common.{ℕ, ◌<◌}
use Rattle.rme_tree.specs.Nodes.{held_levels_in}
use Rattle.rme_process_file.specs.ProcessFiles.{file_memory}
use Rattle.rme_process_file.specs.FileContents.{worker_words_in}
use Rattle.rme_process_file.specs.Sound.{IsSoundWorker}
use Rattle.rme_process_file.proofs.process_file.ProcessFile.workers_damage.Given as goal

abbrev pub invariant-loop-worker : goal.invariant-loop-worker
invariant-loop-worker l = (worker : ℕ) → worker < l.worker → IsSoundWorker l.self.shape (worker_words_in l.self worker) (held_levels_in l.self.shape (file_memory l.self) worker)
