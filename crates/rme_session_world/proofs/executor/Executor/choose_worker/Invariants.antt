use Rattle.std.proofs.Common.{ℕ, ◌<◌}
use Rattle.rme_session_world.specs.Executors.{IsCandidate}
use Rattle.rme_session_world.proofs.executor.Executor.choose_worker.Given as goal

-- No lower worker may be chosen.
abbrev pub invariant-loop-worker : goal.invariant-loop-worker
invariant-loop-worker l = (other : ℕ) → other < l.worker → IsCandidate l.fn.self l.fn.choice l.fn.workers other → ⊥
