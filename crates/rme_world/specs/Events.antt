-- The effect of each event.
use Rattle.std.specs.Prelude.{◌≡◌, ℕ, ◌+◌, ◌≤◌, Option, Some, None, length, slice_get, slice_set}
use Rattle.rme_script.specs.declared.job.Job.{Job}
use Rattle.rme_program.specs.declared.private.Private.{Private}
use Rattle.rme_program.specs.declared.note.Note.{Note}
use Rattle.rme_program.specs.declared.kinds.Phase.TheVariants.{Post, Exit}
use Rattle.rme_script.specs.Jobs.{IsJob}
use Rattle.rme_program.specs.ActionEffects.{ActionEffect}
use Rattle.rme_program.specs.Phases.{phase_of}
use Rattle.rme_program.specs.Steps.{private_action, private_after, note_after, restarted_private, submitted_private, withdrawing_private}
use Rattle.rme_machine.specs.Changes.{history_after}
use Rattle.rme_world.specs.declared.counts.Counts.{Counts}
use Rattle.rme_world.specs.Counting.{CountsAfterStep, with_stay_begun, no_counts}
use Rattle.rme_world.specs.WorldViews.{WorldView, worker_counts, world_memory}
use Rattle.rme_world.specs.Refusals.{step_refusal, submit_refusal, crash_refusal, restart_refusal, withdraw_refusal}

-- The same words and history, with one worker's private state and counts replaced.
abbrev pub world_with_private : WorldView → ℕ → Option Private → Counts → WorldView
world_with_private seen worker private counts =
    record seen { privates = slice_set seen.privates worker private; counts = slice_set seen.counts worker counts }

-- `submit`: the worker knows its job, which will get the next number, and its stay in Post begins. The room may grow,
-- and never shrinks.
pub record SubmitChange (old : WorldView) (worker : ℕ) (job : Job) (number : ℕ) (new : WorldView) : Type 0 where
  pub may : submit_refusal old worker job ≡ None
  pub is_job : IsJob old.shape job
  pub private : Private
  pub found : slice_get old.privates worker ≡ Some (Some private)
  pub next_number : number ≡ private.begun + 1
  pub hands : new ≡ record (world_with_private old worker (Some (submitted_private private job))
      (with_stay_begun (worker_counts old worker) Post)) { room = new.room }
  pub room : old.room ≤ new.room

-- `step`: the next action of the worker's private state is executed on one word. The new private state and the note
-- follow from that private state and the value found. The history grows only by the entry of a finished section, which
-- uses one of the reserved entries: no step adds room.
pub record StepChange (old : WorldView) (worker : ℕ) (note : Note) (new : WorldView) : Type 0 where
  pub may : step_refusal old worker ≡ None
  pub private : Private
  pub found : slice_get old.privates worker ≡ Some (Some private)
  pub value : ℕ
  pub did : ActionEffect (world_memory old) (world_memory new) (private_action old.shape private) value
  pub says : note ≡ note_after old.shape private value
  pub counts : Counts
  pub counted : CountsAfterStep (worker_counts old worker) (phase_of private.stage)
      (phase_of (private_after old.shape private value).stage) note counts
  pub goes : new ≡ record (world_with_private old worker (Some (private_after old.shape private value)) counts)
      { words = new.words; history = history_after old.history (world_memory old) worker note; room = new.room }
  pub room : length new.history + new.room ≡ length old.history + old.room

-- `crash`: the worker's private state is lost, and its counts stay.
pub record CrashChange (old : WorldView) (worker : ℕ) (new : WorldView) : Type 0 where
  pub may : crash_refusal old worker ≡ None
  pub falls : new ≡ world_with_private old worker None (worker_counts old worker)

-- `restart`: the worker comes up, knows only its own number, and all its counts are 0.
pub record RestartChange (old : WorldView) (worker : ℕ) (new : WorldView) : Type 0 where
  pub may : restart_refusal old worker ≡ None
  pub rises : new ≡ world_with_private old worker (Some (restarted_private worker)) no_counts

-- `withdraw`: the worker begins to withdraw its job, and its stay in Exit begins.
pub record WithdrawChange (old : WorldView) (worker : ℕ) (new : WorldView) : Type 0 where
  pub may : withdraw_refusal old worker ≡ None
  pub private : Private
  pub found : slice_get old.privates worker ≡ Some (Some private)
  pub turns : new ≡ world_with_private old worker (Some (withdrawing_private private))
      (with_stay_begun (worker_counts old worker) Exit)
