-- What a worker that is inside may know of its section: the number of finished sections of its lock. It is the place of
-- the section's receipt.
use Rattle.std.specs.Prelude.{◌≡◌, ℕ, ◌==◌, if◌then◌else◌, List, slice_get, Option, Some, None}
use Rattle.rme_words.specs.declared.shape.Shape.{Shape}
use Rattle.rme_program.specs.declared.note.Entry.{Entry}
use Rattle.rme_machine.specs.declared.stance.JobStance.{JobStance}
use Rattle.rme_machine.specs.declared.stance.JobStance.TheVariants.{Idle, Handed, Waiting, Inside, Finished}
use Rattle.rme_machine.specs.declared.label.Act.{Act}
use Rattle.rme_machine.specs.declared.label.Act.TheVariants as act
use Rattle.rme_machine.specs.Histories.{place_of}
use Rattle.rme_machine.specs.Machine.{MachineState, WorkerState, MachineStep}
use Rattle.rme_machine.specs.Theorems.{IsReachable}

-- A known number is that of the finished sections of the lock that the worker is inside of, its own not being finished.
abbrev pub StanceKnowsSection : List Entry → JobStance → Option ℕ → Type 0
StanceKnowsSection history stance None = Unit {0}
StanceKnowsSection history Idle (Some section) = ⊥
StanceKnowsSection history (Handed job) (Some section) = ⊥
StanceKnowsSection history (Waiting number job) (Some section) = ⊥
StanceKnowsSection history (Inside number job) (Some section) = section ≡ place_of history job.lock
StanceKnowsSection history (Finished number job) (Some section) = ⊥

abbrev pub StateKnowsSections : MachineState → (ℕ → Option ℕ) → Type 0
StateKnowsSections state sections =
    (worker : ℕ) (me : WorkerState) → slice_get state.workers worker ≡ Some me
    → StanceKnowsSection state.history me.stance (sections worker)

-- The number is known until the section is finished: a crash does not change it.
abbrev pub section_after : Act → Option ℕ → Option ℕ
section_after (act.Finish receipt) section = None
section_after _ section = section

-- No step of another worker changes the number that a worker knows, and neither does an own step, a crash or a restart
-- before the worker finishes.
abbrev pub KnownSectionLaw : Type 0
KnownSectionLaw =
    (shape : Shape) (act : Act) (old : MachineState) (worker : ℕ) (new : MachineState) (sections : ℕ → Option ℕ)
    → IsReachable shape old → MachineStep shape act old worker new → StateKnowsSections old sections
    → StateKnowsSections new
    (λ (other : ℕ). if other == worker then section_after act (sections worker) else sections other)
