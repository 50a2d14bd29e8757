-- The workers so far are new.
use Rattle.std.proofs.Common.{ℕ, ◌<◌, ◌≤◌, ◌+◌}
use Rattle.rme_durable_checkpoint.specs.Growths.{IsNewWorker}
use Rattle.rme_durable_checkpoint.proofs.growth_validation.are_workers_new.Given as goal

abbrev pub invariant-loop-worker : goal.invariant-loop-worker
invariant-loop-worker l = (worker : ℕ) → l.fn.workers ≤ worker + 1 → worker < l.worker → IsNewWorker l.fn.after.base.now l.fn.after.executor.now worker
