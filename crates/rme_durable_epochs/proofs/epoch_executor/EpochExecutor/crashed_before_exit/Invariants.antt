-- None of the locks so far has an owner without a job.
use Rattle.std.proofs.Common.{◌≡◌, ℕ, ◌<◌, None}
use Rattle.rme_durable_epochs.specs.EpochLengths.{jobless_owner}
use Rattle.rme_durable_epochs.proofs.epoch_executor.EpochExecutor.crashed_before_exit.Given as goal

abbrev pub invariant-loop-lock : goal.invariant-loop-lock
invariant-loop-lock l = (lock : ℕ) → lock < l.lock → jobless_owner l.fn.self.executor.world lock ≡ None
