-- The locks so far have the same next places.
use Rattle.std.proofs.Common.{◌≡◌, ℕ, ◌<◌}
use Rattle.rme_durable_epochs.specs.ClientValues.{next_client_place}
use Rattle.rme_durable_checkpoint.proofs.validation.same_places.Given as goal

abbrev pub invariant-loop-lock : goal.invariant-loop-lock
invariant-loop-lock l = (lock : ℕ) → lock < l.lock → next_client_place l.fn.after.base.now l.fn.after.executor.now.world lock ≡ next_client_place l.fn.before.base.now l.fn.before.executor.now.world lock
