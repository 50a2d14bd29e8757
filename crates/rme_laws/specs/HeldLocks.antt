-- A session whose worker is inside a lock, and the state with which a server begins.
use Rattle.std.specs.Prelude.{◌≡◌, ℕ, ◌+◌, ◌<◌, Some, slice_get}
use Rattle.rme_tree.specs.Nodes.{owner_in}
use Rattle.rme_script.specs.declared.job.Job.{Job}
use Rattle.rme_machine.specs.Theorems.{IsReachable}
use Rattle.rme_session_protocol.specs.declared.view.Session.TheVariants.{Held}
use Rattle.rme_session_world.specs.Executors.{held_session}
use Rattle.rme_world.specs.WorldViews.{WorldView, world_abstract_state, world_memory}
use Rattle.rme_durable_server.specs.ServerHistories.{ServerOpening, ServerState}

-- The abstract state of a world is one that a run of the abstract machine reaches.
abbrev pub IsWorldReachable : WorldView → Type 0
IsWorldReachable world = IsReachable world.shape (world_abstract_state world)

-- A server begins with this state and no other, and with a reachable world.
pub record BeginsWith (opening : ServerOpening) (start : ServerState) : Type 0 where
  pub one : (state : ServerState) → opening.begins state → state ≡ start
  pub reached : IsWorldReachable start.executor.world

-- A session has this worker, not the checkpoint worker, which is inside the lock of this job.
pub record IsSessionInside (session worker : ℕ) (job : Job) (state : ServerState) : Type 0 where
  pub client : worker + 1 < state.executor.world.shape.workers
  pub has : slice_get state.executor.holders worker ≡ Some (Some session)
  pub number : ℕ
  pub shown : held_session state.executor worker ≡ Held record { worker = worker; number = number; draft = Some job }

-- A worker owns a lock, by the words of the world.
pub record WorkerOwnsLock (world : WorldView) (worker lock : ℕ) : Type 0 where
  pub within : lock < world.shape.locks
  pub owner : owner_in world.shape (world_memory world) lock ≡ Some worker
