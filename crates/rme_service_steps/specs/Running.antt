-- THE REFINEMENT THEOREM OF THE RUNNING SERVICE. The operations of all threads, in order, with the change before each
-- call's first own step, are steps of the abstract machine.
use Rattle.std.specs.Prelude.{◌≡◌, ◌≢◌, ℕ, ◌+◌, ◌/◌, ◌<◌, List, [], ◌∷◌, ◌++◌}
use Rattle.rme_words.specs.declared.shape.Shape.{Shape}
use Rattle.rme_words.specs.declared.address.Address.TheVariants.{Turn}
use Rattle.rme_words.specs.Words.{IsShapeAddress}
use Rattle.rme_script.specs.declared.job.Job.{Job}
use Rattle.rme_program.specs.declared.action.Action.{Action}
use Rattle.rme_program.specs.declared.note.Note.{Note}
use Rattle.rme_program.specs.declared.stage.Ascent.{Ascent}
use Rattle.rme_program.specs.declared.stage.Stage.TheVariants.{Resting, Climbing, Logging}
use Rattle.rme_program.specs.declared.stage.Log.TheVariants.{LoadTurn}
use Rattle.rme_script.specs.Jobs.{IsJob}
use Rattle.rme_program.specs.ActionEffects.{action_address}
use Rattle.rme_program.specs.Steps.{private_action, note_after}
use Rattle.rme_machine.specs.declared.label.Act.TheVariants.{Hand, Crash, Restart, Wait}
use Rattle.rme_machine.specs.declared.label.Label.{Label}
use Rattle.rme_machine.specs.declared.label.Label.TheVariants.{Of}
use Rattle.rme_machine.specs.Changes.{history_after}
use Rattle.rme_machine.specs.Machine.{MachineRun}
use Rattle.rme_machine.specs.AbstractState.{act_of_note}
use Rattle.rme_service_steps.specs.declared.operation.Operation.{Operation}
use Rattle.rme_service_steps.specs.declared.operation.Operation.TheVariants as operation
use Rattle.rme_service_steps.specs.declared.seat_record.Part.{Part}
use Rattle.rme_service_steps.specs.Parts.{part_after_step, part_with_section, restarted_part, submitted_part, withdrawing_part}
use Rattle.rme_service_steps.specs.Rule.{ServiceState, ServiceStateInvariant, service_abstract_state, table_memory, parts_with_update}
use Rattle.rme_service_steps.specs.Steps.{value_found_in, value_of_action, words_after}

-- A worker's next step, the value that it finds, and its note.
abbrev pub next_action : Shape → ServiceState → ℕ → Action
next_action shape old worker = private_action shape (old.parts worker).private

abbrev pub next_value : Shape → ServiceState → ℕ → ℕ
next_value shape old worker =
    value_of_action (next_action shape old worker) (value_found_in shape old.words (next_action shape old worker))

abbrev pub next_note : Shape → ServiceState → ℕ → Note
next_note shape old worker = note_after shape (old.parts worker).private (next_value shape old worker)

-- The condition of each operation on the worker's private state.
abbrev pub OperationMayCome : Shape → Operation → ServiceState → Type 0
OperationMayCome shape operation.Look old = Unit {0}
OperationMayCome shape (operation.ReadSection worker lock) old =
    (worker < shape.workers) × ((old.parts worker).private.stage ≡ Logging (LoadTurn lock))
OperationMayCome shape (operation.Restart worker) old = worker < shape.workers
OperationMayCome shape (operation.Submit worker job) old =
    (worker < shape.workers) × ((old.parts worker).private.stage ≡ Resting)
    × ((old.parts worker).private.begun < shape.jobs) × IsJob shape job
OperationMayCome shape (operation.Withdraw worker) old =
    (worker < shape.workers) × (ascent : Ascent) × ((old.parts worker).private.stage ≡ Climbing ascent)
OperationMayCome shape (operation.Step worker) old =
    (worker < shape.workers) × ((old.parts worker).private.stage ≢ Resting)
    × IsShapeAddress shape (action_address (next_action shape old worker))

-- The state after an operation: a step is one operation on one word; the others change only the worker's own part.
abbrev pub state_with_part : ServiceState → ℕ → Part → ServiceState
state_with_part old worker part =
    record { words = old.words; parts = parts_with_update old.parts worker part; history = old.history }

abbrev pub state_after_operation : Shape → Operation → ServiceState → ServiceState
state_after_operation shape operation.Look old = old
state_after_operation shape (operation.ReadSection worker lock) old =
    state_with_part old worker
    (part_with_section (old.parts worker) (table_memory shape old.words (Turn lock) / 2))
state_after_operation shape (operation.Restart worker) old =
    state_with_part old worker (restarted_part (old.parts worker))
state_after_operation shape (operation.Submit worker job) old =
    state_with_part old worker (submitted_part job (old.parts worker))
state_after_operation shape (operation.Withdraw worker) old =
    state_with_part old worker (withdrawing_part (old.parts worker))
state_after_operation shape (operation.Step worker) old = record {
  words = words_after shape old.words (next_action shape old worker);
  parts = parts_with_update old.parts worker (part_after_step shape (old.parts worker) (next_value shape old worker));
  history = history_after old.history (table_memory shape old.words) worker (next_note shape old worker);
}

-- The operation's labels: a reader's load has none; a restart is a crash and a restart.
abbrev pub labels_of_operation : Shape → Operation → ServiceState → List Label
labels_of_operation shape operation.Look old = []
labels_of_operation shape (operation.ReadSection worker lock) old = []
labels_of_operation shape (operation.Restart worker) old = Of worker Crash ∷ Of worker Restart ∷ []
labels_of_operation shape (operation.Submit worker job) old =
    Of worker (Hand ((old.parts worker).private.begun + 1) job) ∷ []
labels_of_operation shape (operation.Withdraw worker) old = Of worker Wait ∷ []
labels_of_operation shape (operation.Step worker) old = Of worker (act_of_note (next_note shape old worker)) ∷ []

-- Operations one after another, of any workers.
abbrev pub OperationsMayCome : Shape → List Operation → ServiceState → Type 0
OperationsMayCome shape [] old = Unit {0}
OperationsMayCome shape (one ∷ others) old =
    OperationMayCome shape one old × OperationsMayCome shape others (state_after_operation shape one old)

abbrev pub state_after_operations : Shape → List Operation → ServiceState → ServiceState
state_after_operations shape [] old = old
state_after_operations shape (one ∷ others) old =
    state_after_operations shape others (state_after_operation shape one old)

abbrev pub labels_of_operations : Shape → List Operation → ServiceState → List Label
labels_of_operations shape [] old = []
labels_of_operations shape (one ∷ others) old =
    labels_of_operation shape one old ++ labels_of_operations shape others (state_after_operation shape one old)

-- The machine makes a run with these labels between the two states, and the second is a world.
pub record IsServiceRun (shape : Shape) (old : ServiceState) (labels : List Label) (new : ServiceState) : Type 0 where
  pub world : ServiceStateInvariant shape new
  pub run : MachineRun shape (service_abstract_state shape old) labels (service_abstract_state shape new)

-- Any interleaving of operations is a run, from the abstract state of the first world to that of the last.
abbrev pub ServiceRefinementLaw : Type 0
ServiceRefinementLaw =
    (shape : Shape) (old : ServiceState) (operations : List Operation) → ServiceStateInvariant shape old
    → OperationsMayCome shape operations old
    → IsServiceRun shape old (labels_of_operations shape operations old) (state_after_operations shape operations old)

-- In every world in which the worker has this part, the change before a call's first own step is a run with these
-- labels.
abbrev pub ChangeIsServiceRun : Shape → Part → (Part → Part) → List Label → Type 0
ChangeIsServiceRun shape part lead labels =
    (old : ServiceState) → ServiceStateInvariant shape old → part.worker < shape.workers → old.parts part.worker ≡ part
    → IsServiceRun shape old labels (state_with_part old part.worker (lead part))

abbrev pub restart_labels : Part → List Label
restart_labels part = Of part.worker Crash ∷ Of part.worker Restart ∷ []

abbrev pub submit_labels : Part → Job → List Label
submit_labels part job = Of part.worker (Hand (part.private.begun + 1) job) ∷ []

abbrev pub withdraw_labels : Part → List Label
withdraw_labels part = Of part.worker Wait ∷ []
