use Rattle.std.proofs.Common.{ℕ, ◌<◌}
use Rattle.rme_process_file.specs.ProcessFiles.{file_memory}
use Rattle.rme_process_file.specs.Sound.{IsSoundLock}
use Rattle.rme_process_file.proofs.process_file.ProcessFile.locks_damage.Given as goal

abbrev pub invariant-loop-lock : goal.invariant-loop-lock
invariant-loop-lock l = (lock : ℕ) → lock < l.lock → IsSoundLock l.self.shape (file_memory l.self) lock
