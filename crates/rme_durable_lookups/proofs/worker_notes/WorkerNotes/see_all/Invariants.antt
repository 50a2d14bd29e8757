use Rattle.std.proofs.Common.{◌≡◌}
use Rattle.rme_durable_lookups.proofs.worker_notes.WorkerNotes.see_all.Given as goal

abbrev pub invariant-loop-worker : goal.invariant-loop-worker
invariant-loop-worker g l = l.self ≡ l.fn.self
