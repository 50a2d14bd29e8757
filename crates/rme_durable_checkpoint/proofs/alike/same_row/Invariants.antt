-- The cells so far are equal.
use Rattle.std.proofs.Common.{◌≡◌, ℕ, ◌<◌, get_or}
use Rattle.rme_durable_checkpoint.proofs.alike.same_row.Given as goal

abbrev pub invariant-loop-cell : goal.invariant-loop-cell
invariant-loop-cell l = (cell : ℕ) → cell < l.cell → get_or l.fn.one cell 0 ≡ get_or l.fn.other cell 0
