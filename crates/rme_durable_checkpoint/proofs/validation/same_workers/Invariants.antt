-- The workers so far are alike.
use Rattle.std.proofs.Common.{ℕ, ◌<◌}
use Rattle.rme_durable_checkpoint.specs.Checkpoints.{IsWorkerAlike}
use Rattle.rme_durable_checkpoint.proofs.validation.same_workers.Given as goal

abbrev pub invariant-loop-worker : goal.invariant-loop-worker
invariant-loop-worker l = (worker : ℕ) → worker < l.worker → IsWorkerAlike l.fn.before.base.now l.fn.before.executor.now l.fn.after.base.now l.fn.after.executor.now worker
