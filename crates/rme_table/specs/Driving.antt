-- The outcome of driving a worker with its job until it is ready.
use Rattle.std.specs.Prelude.{◌≡◌, ℕ, ◌+◌, ◌-◌, ◌≤◌, Bool, true, false, List, [], ◌∷◌, ◌++◌, Some}
use Rattle.rme_words.specs.declared.shape.Shape.{Shape}
use Rattle.rme_script.specs.declared.job.Job.{Job}
use Rattle.rme_program.specs.declared.note.Entry.{Entry}
use Rattle.rme_program.specs.declared.note.Receipt.{Receipt}
use Rattle.rme_service_steps.specs.declared.seat_record.Part.{Part}
use Rattle.rme_service_steps.specs.Chances.{ChanceCounts}
use Rattle.rme_service_steps.specs.CallSteps.{seat_call, SeatStepSequence}
use Rattle.rme_service_steps.specs.Parts.{unchanged_part}
use Rattle.rme_service_steps.specs.SeatViews.{SeatView}
use Rattle.rme_program.specs.declared.note.Note.TheVariants.{Entered}
use Rattle.rme_table.specs.Calls.{PartOwnsLock, is_section_over, levels_held}
use Rattle.rme_table.specs.declared.driving.Driven.{Driven}
use Rattle.rme_table.specs.declared.driving.SweepTries.{SweepTries}
use Rattle.rme_table.specs.declared.driving.Driven.TheVariants.{Done, Waits, Stopped, Fell}

-- The worker made own steps, which are the core's, and the chance was asked before each; a crash asked it once more,
-- with the answer yes.
pub record DriveSteps (shape : Shape) (start now : SeatView) (old new : ChanceCounts) (falls : ℕ) : Type 0 where
  pub ident : now.ident ≡ start.ident
  pub own : now.part.worker ≡ start.part.worker
  pub walks : SeatStepSequence (seat_call shape unchanged_part start now old new) falls

-- The worker still has its job and its entries.
pub record SeatStillHasJob (start now : SeatView) : Type 0 where
  pub draft : now.part.draft ≡ start.part.draft
  pub entries : now.part.entries ≡ start.part.entries
  pub number : now.part.private.begun ≡ start.part.private.begun

-- The worker finished its job: its entry is appended to the worker's entries.
pub record FinishesJobNow (start ready : SeatView) (receipt : Receipt) : Type 0 where
  pub job : Job
  pub draft : start.part.draft ≡ Some job
  pub entries : ready.part.entries ≡ start.part.entries ++ record { receipt = receipt; script = job.script } ∷ []
  pub by : receipt.worker ≡ start.part.worker
  pub number : receipt.number ≡ start.part.private.begun
  pub lock : receipt.lock ≡ job.lock

-- It had finished it before: the last of its entries is that of the job.
pub record HadFinishedJob (start ready : SeatView) (receipt : Receipt) : Type 0 where
  pub before : List Entry
  pub last : Entry
  pub entries : start.part.entries ≡ before ++ last ∷ []
  pub same : ready.part.entries ≡ start.part.entries
  pub told : last.receipt ≡ receipt

abbrev pub JobIsFinished : Bool → SeatView → SeatView → Receipt → Type 0
JobIsFinished true start ready receipt = HadFinishedJob start ready receipt
JobIsFinished false start ready receipt = FinishesJobNow start ready receipt

-- The outcome of driving a worker, whose job may already be finished: the job is finished and the worker ready; or the
-- job waits; or the gate stopped the worker; or it crashed.
abbrev pub DriveOutcome : Shape → Bool → SeatView → ChanceCounts → ChanceCounts → Driven → Type 0
DriveOutcome shape over start old new (Done ready receipt) =
    DriveSteps shape start ready old new 0 × JobIsFinished over start ready receipt
    × (ready.part.private.begun ≡ start.part.private.begun)
DriveOutcome shape over start old new (Waits climb) =
    DriveSteps shape start climb old new 0 × SeatStillHasJob start climb
DriveOutcome shape over start old new (Stopped held) =
    DriveSteps shape start held old new 0 × SeatStillHasJob start held
DriveOutcome shape over start old new (Fell down) = DriveSteps shape start down old new 1

-- The gate did not stop the worker.
abbrev pub GateLetsPass : Driven → Type 0
GateLetsPass (Stopped held) = ⊥
GateLetsPass driven = Unit {0}

-- The gate was asked about this worker, and about a lock that it owned then, and answered this.
pub record GateWasAsked (answered : ℕ → ℕ → Bool → Type 0) (shape : Shape) (worker : ℕ) (answer : Bool) : Type 0 where
  pub part : Part
  pub lock : ℕ
  pub own : part.worker ≡ worker
  pub owns : PartOwnsLock shape part lock
  pub asked : answered worker lock answer

-- What the gate was asked and notified of for a driven worker, whose job may already be finished. If the drive ends
-- with the job done, the gate admitted the worker to its section, unless that had been finished before, and was
-- notified of the job; if the worker was stopped, the gate did not admit it.
abbrev pub GateWatches : (ℕ → ℕ → Bool → Type 0) → (ℕ → ℕ → ℕ → Type 0) → Shape → Bool → ℕ → Driven → Type 0
GateWatches answered told shape over worker (Done ready receipt) =
    (over ≡ false → GateWasAsked answered shape worker true) × told receipt.worker receipt.lock receipt.number
GateWatches answered told shape over worker (Waits climb) = Unit {0}
GateWatches answered told shape over worker (Stopped held) = GateWasAsked answered shape worker false
GateWatches answered told shape over worker (Fell down) = Unit {0}

-- A worker that the gate stopped made no step of its section: it owns the lock, and its job is unfinished. If it waited
-- before, its last step was the one by which it entered.
abbrev pub GateStopsAtEntry : SeatView → Driven → Type 0
GateStopsAtEntry start (Stopped held) = (held ≡ start) × (is_section_over start.part.private.stage ≡ false)
GateStopsAtEntry start driven = Unit {0}

abbrev pub GateStopsInside : Driven → Type 0
GateStopsInside (Stopped held) =
    ((lock : ℕ) × (held.part.note ≡ Entered lock)) × (is_section_over held.part.private.stage ≡ false)
GateStopsInside driven = Unit {0}

-- A worker that owned the lock does not wait for it.
abbrev pub DriveDoesNotWait : Driven → Type 0
DriveDoesNotWait (Waits climb) = ⊥
DriveDoesNotWait driven = Unit {0}

-- The number of blocked sweeps that are still allowed.
abbrev pub sweeps_left : SweepTries → ℕ
sweeps_left tries = tries.most - tries.blocked

-- All of them were made, each with one blocked step: the worker's other steps took the nodes that it now also holds.
pub record AllSweepsWereMade (start climb : SeatView) (old new : SweepTries) : Type 0 where
  pub most : new.most ≡ old.most
  pub blocked : new.blocked ≡ old.blocked + sweeps_left old
  pub exact : levels_held start.part.private.stage + climb.part.steps ≡ start.part.steps + levels_held
      climb.part.private.stage + sweeps_left old
  pub steps : start.part.steps + sweeps_left old ≤ climb.part.steps

-- A job waits only after all allowed sweeps.
abbrev pub WaitsAfterAllSweeps : SeatView → SweepTries → SweepTries → Driven → Type 0
WaitsAfterAllSweeps start old new (Waits climb) = AllSweepsWereMade start climb old new
WaitsAfterAllSweeps start old new driven = Unit {0}

-- The worker afterwards.
abbrev pub seat_after_drive : Driven → SeatView
seat_after_drive (Done ready receipt) = ready
seat_after_drive (Waits climb) = climb
seat_after_drive (Stopped held) = held
seat_after_drive (Fell down) = down

-- The count of sweeps: it does not decrease, stays within the limit, and each sweep had at least one own step.
pub record SweepsAreCounted (start now : SeatView) (old new : SweepTries) : Type 0 where
  pub more : old.blocked ≤ new.blocked
  pub few : new.blocked ≤ old.blocked + sweeps_left old
  pub steps : start.part.steps + new.blocked ≤ now.part.steps + old.blocked
