-- The exits so far are logged.
use Rattle.std.proofs.Common.{◌≡◌, ℕ}
use Rattle.rme_durable_epochs.specs.LoggedStates.{LoggedSteps, logged_state}
use Rattle.rme_durable_epochs.proofs.epoch_executor.EpochExecutor.finish_exits.Given as goal

abbrev pub invariant-loop : goal.invariant-loop
invariant-loop l =
    ((count : ℕ) × LoggedSteps l.fn.names l.fn.session count (logged_state l.fn.self.executor l.fn.self.lives l.fn.self.lines) (logged_state l.self.executor l.self.lives l.self.lines))
    × (l.self.base ≡ l.fn.self.base) × (l.self.epoch ≡ l.fn.self.epoch) × (l.self.taken ≡ l.fn.self.taken)
