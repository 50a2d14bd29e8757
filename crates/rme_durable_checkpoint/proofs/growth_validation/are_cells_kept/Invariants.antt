-- The cells of the locks so far are kept.
use Rattle.std.proofs.Common.{◌≡◌, ℕ, ◌<◌}
use Rattle.rme_durable_checkpoint.specs.Growths.{row_cell}
use Rattle.rme_durable_checkpoint.proofs.growth_validation.are_cells_kept.Given as goal

abbrev pub invariant-loop-lock : goal.invariant-loop-lock
invariant-loop-lock l = (lock cell : ℕ) → lock < l.lock → cell < l.fn.shape.cells → row_cell l.fn.after lock cell ≡ row_cell l.fn.before lock cell
