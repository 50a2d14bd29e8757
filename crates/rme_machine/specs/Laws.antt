-- The laws of a step and of the events. Each is the contract of a function of the module `laws`.
use Rattle.std.specs.Prelude.{◌≡◌, ◌≢◌, ℕ, ◌+◌, ◌<◌, List, [], Some, None}
use Rattle.rme_words.specs.declared.shape.Shape.{Shape}
use Rattle.rme_words.specs.declared.address.Address.{Address}
use Rattle.rme_script.specs.declared.job.Job.{Job}
use Rattle.rme_program.specs.declared.note.Entry.{Entry}
use Rattle.rme_program.specs.declared.private.Private.{Private}
use Rattle.rme_program.specs.declared.stage.Stage.TheVariants.{Resting, Climbing}
use Rattle.rme_program.specs.declared.stage.Ascent.{Ascent}
use Rattle.rme_program.specs.ActionEffects.{ActionEffect}
use Rattle.rme_program.specs.Steps.{private_action, private_after, note_after, ready_private, restarted_private, submitted_private, withdrawing_private}
use Rattle.rme_program.specs.Conditions.{IsValidLoad}
use Rattle.rme_script.specs.Jobs.{IsJob}
use Rattle.rme_machine.specs.declared.label.Act.{Act}
use Rattle.rme_machine.specs.declared.label.Act.TheVariants.{Hand, Crash, Restart, Wait}
use Rattle.rme_machine.specs.Machine.{MachineStep, opening_state}
use Rattle.rme_machine.specs.AbstractState.{Privates, abstract_state, act_of_note}
use Rattle.rme_machine.specs.Invariant.{Invariant}
use Rattle.rme_machine.specs.Changes.{PrivateChange, history_after}

-- A state of the service: its memory, the private states of its workers, and its history.
pub record ConcreteState : Type 0 where
  pub memory : Address → ℕ
  pub privates : Privates
  pub history : List Entry

abbrev pub concrete_state : (Address → ℕ) → Privates → List Entry → ConcreteState
concrete_state memory privates history = record { memory = memory; privates = privates; history = history }

-- The invariant holds after the step, and the abstract state makes the machine's step.
abbrev pub RefinementStep : Shape → ConcreteState → ConcreteState → ℕ → Act → Type 0
RefinementStep shape old new worker act =
    Invariant shape new.memory new.privates new.history
    × MachineStep shape act (abstract_state shape old.memory old.privates old.history) worker
    (abstract_state shape new.memory new.privates new.history)

-- Each own step of a worker, of every kind, preserves the invariant and is the machine step of its note.
abbrev pub StepLaw : Type 0
StepLaw =
    (shape : Shape) (old new : Address → ℕ) (before after : Privates) (history : List Entry) (worker : ℕ)
    (private : Private) (found : ℕ)
    → Invariant shape old before history → worker < shape.workers → before worker ≡ Some private
    → private.stage ≢ Resting
    → ActionEffect old new (private_action shape private) found
    → PrivateChange before after worker (Some (private_after shape private found))
    → RefinementStep shape (concrete_state old before history)
    (concrete_state new after (history_after history old worker (note_after shape private found))) worker
    (act_of_note (note_after shape private found))

-- The value that a step finds is one that the worker accepts.
abbrev pub ValidLoadLaw : Type 0
ValidLoadLaw =
    (shape : Shape) (old new : Address → ℕ) (before : Privates) (history : List Entry) (worker : ℕ) (private : Private)
    (found : ℕ)
    → Invariant shape old before history → worker < shape.workers → before worker ≡ Some private
    → private.stage ≢ Resting
    → ActionEffect old new (private_action shape private) found → IsValidLoad shape private.stage found

-- The events other than a step change only one private state.
abbrev pub SubmitLaw : Type 0
SubmitLaw =
    (shape : Shape) (memory : Address → ℕ) (before after : Privates) (history : List Entry) (worker : ℕ)
    (private : Private) (job : Job)
    → Invariant shape memory before history → worker < shape.workers → before worker ≡ Some private
    → private.stage ≡ Resting
    → private.begun < shape.jobs → IsJob shape job
    → PrivateChange before after worker (Some (submitted_private private job))
    → RefinementStep shape (concrete_state memory before history) (concrete_state memory after history) worker
    (Hand (private.begun + 1) job)

abbrev pub CrashLaw : Type 0
CrashLaw =
    (shape : Shape) (memory : Address → ℕ) (before after : Privates) (history : List Entry) (worker : ℕ)
    (private : Private)
    → Invariant shape memory before history → worker < shape.workers → before worker ≡ Some private
    → PrivateChange before after worker None
    → RefinementStep shape (concrete_state memory before history) (concrete_state memory after history) worker Crash

abbrev pub RestartLaw : Type 0
RestartLaw = (shape : Shape) (memory : Address → ℕ) (before after : Privates) (history : List Entry) (worker : ℕ)
    → Invariant shape memory before history → worker < shape.workers → before worker ≡ None
    → PrivateChange before after worker (Some (restarted_private worker))
    → RefinementStep shape (concrete_state memory before history) (concrete_state memory after history) worker Restart

abbrev pub WithdrawLaw : Type 0
WithdrawLaw =
    (shape : Shape) (memory : Address → ℕ) (before after : Privates) (history : List Entry) (worker : ℕ)
    (private : Private) (ascent : Ascent)
    → Invariant shape memory before history → worker < shape.workers → before worker ≡ Some private
    → private.stage ≡ Climbing ascent
    → PrivateChange before after worker (Some (withdrawing_private private))
    → RefinementStep shape (concrete_state memory before history) (concrete_state memory after history) worker Wait

-- The invariant holds initially, and the abstract state is the machine's initial state.
abbrev pub OpeningLaw : Type 0
OpeningLaw = (shape : Shape) (memory : Address → ℕ) (privates : Privates)
    → ((address : Address) → memory address ≡ 0)
    → ((worker : ℕ) → worker < shape.workers → privates worker ≡ Some (ready_private worker 0))
    → Invariant shape memory privates [] × (abstract_state shape memory privates [] ≡ opening_state shape)
