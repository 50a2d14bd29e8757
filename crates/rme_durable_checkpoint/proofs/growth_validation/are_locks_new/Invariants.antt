-- The locks so far are new.
use Rattle.std.proofs.Common.{ℕ, ◌<◌, ◌≤◌}
use Rattle.rme_durable_checkpoint.specs.Growths.{IsNewLock}
use Rattle.rme_durable_checkpoint.proofs.growth_validation.are_locks_new.Given as goal

abbrev pub invariant-loop-lock : goal.invariant-loop-lock
invariant-loop-lock l = (lock : ℕ) → l.fn.first ≤ lock → lock < l.lock → IsNewLock l.fn.after.base.now l.fn.after.executor.now lock
