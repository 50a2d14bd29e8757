-- The event batch of a session's order, and the holders afterwards.
use Rattle.std.specs.Prelude.{◌≡◌, ◌⊎◌, ◌||◌, ℕ, nat_lt, Bool, true, false, Option, Some, None, slice_get, slice_set, if◌then◌else◌}
use Rattle.rme_session_world.specs.EventBatches.{AppliesEvents, batch_events}
use Rattle.rme_session_world.specs.ExecutorStates.{ExecutorState}
use Rattle.rme_session_world.specs.declared.event_batch.EventBatch.{EventBatch}
use Rattle.rme_session_world.specs.declared.event_batch.BatchStart.{BatchStart}
use Rattle.rme_session_world.specs.declared.event_batch.BatchStart.TheVariants.{GoOn}

-- A batch begins with an event that is more than a step.
abbrev pub has_start : BatchStart → Bool
has_start GoOn = false
has_start begins = true

-- A batch has an event.
abbrev pub has_events : EventBatch → Bool
has_events batch = has_start batch.begins || (nat_lt 0 batch.steps || batch.falls)

abbrev pub batch_with_events : Option EventBatch → Option EventBatch
batch_with_events None = None
batch_with_events (Some batch) = if has_events batch then Some batch else None

-- The holder of the batch's worker afterwards: none if the worker crashed, else the session.
abbrev pub holder_by : Bool → ℕ → Option ℕ
holder_by true session = None
holder_by false session = Some session

-- A session may order a worker that it has, or one that no session has.
abbrev pub MayOrderWorker : ℕ → Option (Option ℕ) → Type 0
MayOrderWorker session holder = (holder ≡ Some (Some session)) ⊎ (holder ≡ Some None)

-- The event batch of a session's order was applied: its events are of one worker, which the session had, or no session.
-- Afterwards the session has that worker, unless the worker crashed.
pub record AppliesSessionBatch (session : ℕ) (old : ExecutorState) (batch : EventBatch) (new : ExecutorState) : Type 0
  where
    pub happened : AppliesEvents old.world (batch_events batch) new.world
    pub some : has_events batch ≡ true
    pub may : MayOrderWorker session (slice_get old.holders batch.worker)
    pub holders : new.holders ≡ slice_set old.holders batch.worker (holder_by batch.falls session)

-- The effect of a session's order on an executor: its event batch; without one nothing changes.
abbrev pub AppliesSessionOrder : ℕ → ExecutorState → Option EventBatch → ExecutorState → Type 0
AppliesSessionOrder session old None new = new ≡ old
AppliesSessionOrder session old (Some batch) new = AppliesSessionBatch session old batch new
