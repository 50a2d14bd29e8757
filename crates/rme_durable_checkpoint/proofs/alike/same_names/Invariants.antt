-- The names so far are equal.
use Rattle.std.proofs.Common.{◌≡◌, ℕ, ◌<◌, []}
use Rattle.std.specs.Prelude.{slice_index_or}
use Rattle.rme_durable_checkpoint.proofs.alike.same_names.Given as goal

abbrev pub invariant-loop-lock : goal.invariant-loop-lock
invariant-loop-lock l = (lock : ℕ) → lock < l.lock → slice_index_or l.fn.one lock [] ≡ slice_index_or l.fn.other lock []
