-- The rows so far are equal.
use Rattle.std.proofs.Common.{◌≡◌, ℕ, ◌<◌, List, get_or}
use Rattle.rme_durable_checkpoint.proofs.alike.same_rows.Given as goal

abbrev pub invariant-loop-place : goal.invariant-loop-place
invariant-loop-place l = (place : ℕ) (none : List ℕ) → place < l.place → get_or l.fn.one place none ≡ get_or l.fn.other place none
