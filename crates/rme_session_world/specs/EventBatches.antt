-- The event batch of an order: a list of events of the world, all of one worker.
use Rattle.std.specs.Prelude.{ℕ, Bool, true, false, List, [], ◌∷◌, ◌++◌, replicate, Option, Some, None}
use Rattle.rme_program.specs.declared.event.Answer.{Answer}
use Rattle.rme_program.specs.declared.event.Event.{Event}
use Rattle.rme_program.specs.declared.event.Event.TheVariants as event
use Rattle.rme_world.specs.WorldViews.{WorldView}
use Rattle.rme_world.specs.EventLists.{EventListContract}
use Rattle.rme_session_world.specs.declared.event_batch.EventBatch.{EventBatch}
use Rattle.rme_session_world.specs.declared.event_batch.BatchStart.{BatchStart}
use Rattle.rme_session_world.specs.declared.event_batch.BatchStart.TheVariants.{Restart, Submit, Withdraw, GoOn}

-- The first event.
abbrev pub start_events : ℕ → BatchStart → List Event
start_events worker Restart = event.Restart worker ∷ []
start_events worker (Submit job) = event.Submit worker job ∷ []
start_events worker Withdraw = event.Withdraw worker ∷ []
start_events worker GoOn = []

-- The own steps, and perhaps a crash.
abbrev pub step_events : ℕ → ℕ → List Event
step_events worker steps = replicate steps (event.Step worker)

abbrev pub crash_events : ℕ → Bool → List Event
crash_events worker true = event.Crash worker ∷ []
crash_events worker false = []

abbrev pub batch_events : EventBatch → List Event
batch_events batch =
    start_events batch.worker batch.begins ++
    (step_events batch.worker batch.steps ++ crash_events batch.worker batch.falls)

abbrev pub batch_events_if : Option EventBatch → List Event
batch_events_if None = []
batch_events_if (Some batch) = batch_events batch

-- The events, in order, lead from one world to another.
abbrev pub AppliesEvents : WorldView → List Event → WorldView → Type 0
AppliesEvents old events new = (answers : List Answer) × EventListContract old events answers new
