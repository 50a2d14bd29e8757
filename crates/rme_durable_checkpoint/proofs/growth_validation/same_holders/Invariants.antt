-- The workers so far have the same sessions.
use Rattle.std.proofs.Common.{◌≡◌, ℕ, ◌<◌, slice_get}
use Rattle.rme_durable_checkpoint.proofs.growth_validation.same_holders.Given as goal

abbrev pub invariant-loop-worker : goal.invariant-loop-worker
invariant-loop-worker l = (worker : ℕ) → worker < l.worker → slice_get l.fn.after.executor.now.holders worker ≡ slice_get l.fn.before.executor.now.holders worker
