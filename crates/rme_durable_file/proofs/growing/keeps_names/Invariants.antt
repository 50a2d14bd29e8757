-- The locks so far have the names that they had.
use Rattle.std.proofs.Common.{◌≡◌, ℕ, ◌<◌, [], get_or}
use Rattle.rme_durable_file.proofs.growing.keeps_names.Given as goal

abbrev pub invariant-loop-lock : goal.invariant-loop-lock
invariant-loop-lock l = (lock : ℕ) → lock < l.lock → get_or l.fn.after lock [] ≡ get_or l.fn.before lock []
