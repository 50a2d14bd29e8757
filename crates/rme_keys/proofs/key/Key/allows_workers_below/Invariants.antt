use Rattle.std.proofs.Common.{ℕ, ◌<◌}
use Rattle.rme_keys.specs.Allowing.{AllowsWorker}
use Rattle.rme_keys.proofs.key.Key.allows_workers_below.Given as goal

-- each worker so far may be attached
abbrev pub invariant-loop-worker : goal.invariant-loop-worker
invariant-loop-worker l = (k : ℕ) → k < l.worker → AllowsWorker l.self k
