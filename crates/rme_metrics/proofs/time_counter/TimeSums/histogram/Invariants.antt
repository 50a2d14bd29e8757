-- The counts so far rise, and the last is that of all times so far.
use Rattle.rme_metrics.proofs.Rising.{RisesTo}
use Rattle.rme_metrics.proofs.time_counter.TimeSums.histogram.Given as goal

abbrev pub invariant-loop-place : goal.invariant-loop-place
invariant-loop-place l = RisesTo l.buckets.items l.place l.count
