-- The session view of a worker of a world: the machine's state of the worker.
use Rattle.std.specs.Prelude.{◌≡◌, ℕ, ◌≤◌, ◌==◌, List, Option, Some, None, if◌then◌else◌, slice_get, Bool, true, false, IsSome}
use Rattle.rme_words.specs.declared.shape.Shape.{Shape}
use Rattle.rme_program.specs.declared.kinds.Phase.{Phase}
use Rattle.rme_program.specs.declared.kinds.Phase.TheVariants as phase
use Rattle.rme_program.specs.declared.note.Entry.{Entry}
use Rattle.rme_program.specs.declared.note.Receipt.{Receipt}
use Rattle.rme_program.specs.declared.private.Private.{Private}
use Rattle.rme_program.specs.Phases.{phase_of}
use Rattle.rme_machine.specs.declared.stance.JobStance.{JobStance}
use Rattle.rme_machine.specs.declared.stance.JobStance.TheVariants as stance
use Rattle.rme_machine.specs.Histories.{last_entry_of_worker}
use Rattle.rme_machine.specs.Machine.{WorkerState}
use Rattle.rme_machine.specs.AbstractState.{abstract_worker}
use Rattle.rme_session_protocol.specs.declared.view.Session.{Session}
use Rattle.rme_session_protocol.specs.declared.view.Session.TheVariants.{Nobody, Ready, Climb, Held}
use Rattle.rme_world.specs.WorldViews.{WorldView, world_memory, world_privates}

-- The state of a worker in the abstract state of the world.
abbrev pub worker_state_in : WorldView → ℕ → WorkerState
worker_state_in seen worker = abstract_worker seen.shape (world_memory seen) (world_privates seen) seen.history worker

-- The receipt of a worker's last entry, if its number is this one.
abbrev pub receipt_of_number : ℕ → Option Entry → Option Receipt
receipt_of_number number None = None
receipt_of_number number (Some entry) = if entry.receipt.number == number then Some entry.receipt else None

abbrev pub last_receipt_under : List Entry → ℕ → ℕ → Option Receipt
last_receipt_under history worker number = receipt_of_number number (last_entry_of_worker history worker)

-- Between two orders a worker is ready, waits for its lock, or is inside.
abbrev pub worker_session_by : List Entry → ℕ → ℕ → JobStance → Session
worker_session_by history worker asked stance.Idle =
    Ready record { worker = worker; number = asked; last = last_receipt_under history worker asked }
worker_session_by history worker asked (stance.Waiting number job) =
    Climb record { worker = worker; number = number; draft = Some job }
worker_session_by history worker asked (stance.Inside number job) =
    Held record { worker = worker; number = number; draft = Some job }
worker_session_by history worker asked stance = Nobody

abbrev pub worker_session : WorldView → ℕ → Session
worker_session seen worker =
    worker_session_by seen.history worker (worker_state_in seen worker).asked (worker_state_in seen worker).stance

-- A worker that waits or is inside has a job that was submitted.
abbrev pub HasDraft : Session → Type 0
HasDraft (Climb pending) = IsSome pending.draft
HasDraft (Held pending) = IsSome pending.draft
HasDraft session = ⊥

abbrev pub is_resting_phase : Phase → Bool
is_resting_phase phase.Ready = true
is_resting_phase phase.Enter = true
is_resting_phase phase.Section = true
is_resting_phase phase.Recover = false
is_resting_phase phase.Post = false
is_resting_phase phase.Exit = false

-- A worker is at rest: an order may leave it there.
abbrev pub IsAtRest : WorldView → ℕ → Type 0
IsAtRest seen worker =
    (private : Private) × (slice_get seen.privates worker ≡ Some (Some private))
    × (is_resting_phase (phase_of private.stage) ≡ true)

-- A ready worker has begun at most all its jobs.
abbrev pub IsNumberWithinJobs : Shape → Session → Type 0
IsNumberWithinJobs shape Nobody = Unit {0}
IsNumberWithinJobs shape (Ready ready) = ready.number ≤ shape.jobs
IsNumberWithinJobs shape (Climb pending) = Unit {0}
IsNumberWithinJobs shape (Held pending) = Unit {0}
