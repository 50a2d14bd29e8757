-- Each of the workers so far may have its last job.
use Rattle.std.proofs.Common.{◌≡◌, ◌<◌, ℕ, slice_get, Some}
use Rattle.rme_durable_format.specs.Headers.{IsPossibleLastJob}
use Rattle.rme_durable_format.specs.declared.header.LastJob.{LastJob}
use Rattle.rme_durable_format.proofs.header_reader.are_last_jobs.Given as goal

abbrev pub invariant-loop-worker : goal.invariant-loop-worker
invariant-loop-worker l = (worker n : ℕ) (word : LastJob) → worker < l.worker → slice_get l.numbers worker ≡ Some n → slice_get l.words worker ≡ Some word → IsPossibleLastJob worker n word
