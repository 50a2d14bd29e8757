-- Each bound so far is below the time.
use Rattle.std.proofs.Common.{ℕ, ◌<◌, get_or}
use Rattle.rme_metrics.proofs.time_counter.bucket_of.Given as goal

abbrev pub invariant-loop-place : goal.invariant-loop-place
invariant-loop-place l = (k : ℕ) → k < l.place → get_or l.bounds k 0 < l.micros
