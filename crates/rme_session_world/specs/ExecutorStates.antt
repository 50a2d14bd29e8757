-- The state of an executor: its world, and the holder of each worker.
use Rattle.std.specs.Prelude.{◌≡◌, ℕ, ◌==◌, Bool, false, List, Option, Some, None, length, slice_get}
use Rattle.rme_world.specs.WorldViews.{WorldView}
use Rattle.rme_session_world.specs.Downs.{IsWorkerDown}
use Rattle.rme_session_world.specs.WorkerSessions.{IsAtRest}

pub record ExecutorState : Type 0 where
  pub world : WorldView
  pub holders : List (Option ℕ)

-- A session has a worker.
abbrev pub is_held_by : ℕ → Option (Option ℕ) → Bool
is_held_by session None = false
is_held_by session (Some None) = false
is_held_by session (Some (Some holder)) = holder == session

-- A worker with a holder is at rest; a worker without one is down.
abbrev pub IsWorkerInPlace : WorldView → ℕ → Option ℕ → Type 0
IsWorkerInPlace seen worker None = IsWorkerDown seen worker
IsWorkerInPlace seen worker (Some session) = IsAtRest seen worker

-- THE EXECUTOR'S INVARIANT: each worker has a slot for its holder; a worker with a holder is at rest, and every other
-- is down.
pub record ExecutorInvariant (executor : ExecutorState) : Type 0 where
  pub all : length executor.holders ≡ executor.world.shape.workers
  pub held : (worker session : ℕ) → slice_get executor.holders worker ≡ Some (Some session)
      → IsAtRest executor.world worker
  pub free : (worker : ℕ) → slice_get executor.holders worker ≡ Some None → IsWorkerDown executor.world worker
