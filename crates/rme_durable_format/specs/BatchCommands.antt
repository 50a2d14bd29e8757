-- The commands of an event batch: the requests of the lines that are appended for its events.
use Rattle.std.specs.Prelude.{ℕ, zero, suc, Bool, true, false, List, [], ◌∷◌, ◌++◌, replicate, Option, Some, None}
use Rattle.rme_program.specs.declared.private.Private.{Private}
use Rattle.rme_program.specs.declared.event.Event.{Event}
use Rattle.rme_program.specs.declared.event.Event.TheVariants as event
use Rattle.rme_session_world.specs.declared.event_batch.EventBatch.{EventBatch}
use Rattle.rme_session_world.specs.declared.event_batch.BatchStart.{BatchStart}
use Rattle.rme_session_world.specs.declared.event_batch.BatchStart.TheVariants.{Restart, Submit, Withdraw, GoOn}
use Rattle.rme_wire.specs.declared.command.Command.{Command}
use Rattle.rme_wire.specs.declared.command.Command.TheVariants as command

abbrev pub start_commands : ℕ → BatchStart → List Command
start_commands worker Restart = command.Restart worker ∷ []
start_commands worker (Submit job) = command.Submit worker job ∷ []
start_commands worker Withdraw = command.Withdraw worker ∷ []
start_commands worker GoOn = []

-- The own steps are one walk.
abbrev pub step_commands : ℕ → ℕ → List Command
step_commands worker zero = []
step_commands worker (suc steps) = command.Walk record { worker = worker; until = None; max = suc steps } ∷ []

abbrev pub crash_commands : ℕ → Bool → List Command
crash_commands worker true = command.Crash worker ∷ []
crash_commands worker false = []

abbrev pub batch_commands : EventBatch → List Command
batch_commands batch =
    start_commands batch.worker batch.begins ++
    (step_commands batch.worker batch.steps ++ crash_commands batch.worker batch.falls)

abbrev pub batch_commands_if : Option EventBatch → List Command
batch_commands_if None = []
batch_commands_if (Some batch) = batch_commands batch

-- The events that a command asks of a world: a walk asks for its greatest number of own steps.
abbrev pub asked_events : Command → List Event
asked_events (command.Submit worker job) = event.Submit worker job ∷ []
asked_events (command.Step worker) = event.Step worker ∷ []
asked_events (command.Walk walk) = replicate walk.max (event.Step walk.worker)
asked_events (command.Crash worker) = event.Crash worker ∷ []
asked_events (command.Restart worker) = event.Restart worker ∷ []
asked_events (command.Withdraw worker) = event.Withdraw worker ∷ []
asked_events look_up = []

abbrev pub all_asked_events : List Command → List Event
all_asked_events [] = []
all_asked_events (command ∷ commands) = asked_events command ++ all_asked_events commands

-- The crashes of the workers that are up, from this number on.
abbrev pub crash_commands_from : ℕ → List (Option Private) → List Command
crash_commands_from worker [] = []
crash_commands_from worker (None ∷ privates) = crash_commands_from (suc worker) privates
crash_commands_from worker (Some private ∷ privates) = command.Crash worker ∷ crash_commands_from (suc worker) privates
