use Rattle.std.proofs.Common.{◌≡◌}
use Rattle.rme_durable_lookups.proofs.worker_notes.WorkerNotes.count_seconds.Given as goal

abbrev pub invariant-loop-place : goal.invariant-loop-place
invariant-loop-place g l = l.self ≡ l.fn.self
