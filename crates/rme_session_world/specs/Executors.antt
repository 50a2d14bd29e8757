-- A world whose workers sessions attach, and the view of each session.
use Rattle.std.specs.Prelude.{◌≡◌, ℕ, ◌<◌, Bool, true, false, List, [], ◌∷◌, Option, Some, None, slice_get, slice_set, if◌then◌else◌}
use Rattle.rme_session_protocol.specs.declared.view.Session.{Session}
use Rattle.rme_session_protocol.specs.declared.view.Session.TheVariants.{Nobody}
use Rattle.rme_session_protocol.specs.declared.view.SessionView.{SessionView}
use Rattle.rme_session_protocol.specs.declared.order.Order.{Order}
use Rattle.rme_session_protocol.specs.declared.order.Order.TheVariants.{Attach}
use Rattle.rme_program.specs.declared.event.Event.{Event}
use Rattle.rme_program.specs.declared.event.Event.TheVariants as event
use Rattle.rme_session_protocol.specs.declared.worker_choice.WorkerChoice.{WorkerChoice}
use Rattle.rme_session_protocol.specs.WorkerChoices.{is_chosen}
use Rattle.rme_world.specs.WorldViews.{WorldView}
use Rattle.rme_world.specs.Queries.{world_worker_words}
use Rattle.rme_machine.specs.Views.{is_pending}
use Rattle.rme_session_world.specs.declared.executor.SessionState.{SessionState}
use Rattle.rme_session_world.specs.EventBatches.{AppliesEvents}
use Rattle.rme_session_world.specs.Downs.{IsWorkerDown}
use Rattle.rme_session_world.specs.AppliedOrders.{worker_view}
use Rattle.rme_session_world.specs.ExecutorStates.{ExecutorState, is_held_by}
use Rattle.rme_session_world.specs.WorkerSessions.{worker_session}

-- The worker of a session, if the executor agrees.
abbrev pub owned_worker_by : ExecutorState → ℕ → Option ℕ → Option ℕ
owned_worker_by executor session None = None
owned_worker_by executor session (Some worker) =
    if is_held_by session (slice_get executor.holders worker) then Some worker else None

abbrev pub owned_worker : ExecutorState → SessionState → Option ℕ
owned_worker executor stand = owned_worker_by executor stand.session stand.worker

-- The holders after an order: the session now has this worker, or none.
abbrev pub holders_after : List (Option ℕ) → Option ℕ → Option ℕ → ℕ → List (Option ℕ)
holders_after holders None None session = holders
holders_after holders (Some worker) None session = slice_set holders worker None
holders_after holders None (Some worker) session = slice_set holders worker (Some session)
holders_after holders (Some own) (Some worker) session = slice_set holders worker (Some session)

-- The view of a session.
abbrev pub executor_session_view : ExecutorState → SessionState → SessionView
executor_session_view executor stand = worker_view executor.world (owned_worker executor stand) stand.planned

-- The view of the session that has a worker, if one has.
abbrev pub held_session_if : Option (Option ℕ) → Session → Session
held_session_if None shown = Nobody
held_session_if (Some None) shown = Nobody
held_session_if (Some (Some session)) shown = shown

abbrev pub held_session : ExecutorState → ℕ → Session
held_session executor worker =
    held_session_if (slice_get executor.holders worker) (worker_session executor.world worker)

-- Another session has the worker that an order would attach.
abbrev pub has_holder : Option (Option ℕ) → Bool
has_holder None = false
has_holder (Some None) = false
has_holder (Some (Some session)) = true

abbrev pub is_worker_taken : ExecutorState → Option ℕ → Order → Bool
is_worker_taken executor None (Attach asked) = has_holder (slice_get executor.holders asked.worker)
is_worker_taken executor seat its = false

-- A session that leaves the choice of its worker to the executor may get this one: it is one of the first `workers`
-- workers, no session has it, and it has a pending job, or has none, as the choice says.
pub record IsCandidate (executor : ExecutorState) (choice : WorkerChoice) (workers worker : ℕ) : Type 0 where
  pub within : worker < workers
  pub free : slice_get executor.holders worker ≡ Some None
  pub fits : is_chosen choice (is_pending (world_worker_words executor.world worker)) ≡ true

-- It gets the lowest of them.
pub record IsChosenWorker (executor : ExecutorState) (choice : WorkerChoice) (workers worker : ℕ) : Type 0 where
  pub candidate : IsCandidate executor choice workers worker
  pub lowest : (other : ℕ) → other < worker → IsCandidate executor choice workers other → ⊥

abbrev pub HasNoCandidate : ExecutorState → WorkerChoice → ℕ → Type 0
HasNoCandidate executor choice workers = (worker : ℕ) → IsCandidate executor choice workers worker → ⊥

-- Only crashes led from one world to another, in which all workers are down.
abbrev pub AreCrashes : List Event → Type 0
AreCrashes [] = Unit {0}
AreCrashes (event.Crash worker ∷ events) = AreCrashes events
AreCrashes _ = ⊥

pub record HasCrashedAll (old new : WorldView) : Type 0 where
  pub events : List Event
  pub crashes : AreCrashes events
  pub happened : AppliesEvents old events new
  pub shape : new.shape ≡ old.shape
  pub down : (worker : ℕ) → worker < old.shape.workers → IsWorkerDown new worker
