-- The cells so far are kept.
use Rattle.std.proofs.Common.{◌≡◌, ℕ, ◌<◌}
use Rattle.rme_durable_checkpoint.specs.Growths.{row_cell}
use Rattle.rme_durable_checkpoint.proofs.growth_validation.is_row_kept.Given as goal

abbrev pub invariant-loop-cell : goal.invariant-loop-cell
invariant-loop-cell l = (cell : ℕ) → cell < l.cell → row_cell l.fn.after l.fn.lock cell ≡ row_cell l.fn.before l.fn.lock cell
