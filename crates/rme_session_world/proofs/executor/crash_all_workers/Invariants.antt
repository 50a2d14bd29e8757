use Rattle.rme_session_world.proofs.Falling.{FallenTo}
use Rattle.rme_session_world.proofs.executor.crash_all_workers.Given as goal

-- The workers so far are down, by crashes only.
abbrev pub invariant-loop-worker : goal.invariant-loop-worker
invariant-loop-worker l = FallenTo l.worker l.fn.world l.world
