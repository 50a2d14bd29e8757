-- The results of phase Recover.
use Rattle.std.specs.Prelude.{◌≡◌, ℕ, ◌+◌, ◌≤◌, ◌==◌, if◌then◌else◌, Bool, true, false}
use Rattle.rme_words.specs.declared.shape.Shape.{Shape}
use Rattle.rme_words.specs.declared.address.Address.{Address}
use Rattle.rme_words.specs.declared.address.Address.TheVariants.{At, SlateLock}
use Rattle.rme_program.specs.declared.note.Note.{Note}
use Rattle.rme_program.specs.declared.note.Note.TheVariants as note
use Rattle.rme_program.specs.declared.stage.Stage.{Stage}
use Rattle.rme_program.specs.declared.stage.Stage.TheVariants as stage
use Rattle.rme_program.specs.declared.stage.Departure.TheVariants.{Clear}
use Rattle.rme_program.specs.Steps.{reentry_stage}
use Rattle.rme_service_steps.specs.CallSteps.{SeatCall, CallProgress}
use Rattle.rme_service_phases.specs.declared.recovering.ResumePoint.{ResumePoint}
use Rattle.rme_service_phases.specs.declared.recovering.ResumePoint.TheVariants.{Ready, Climbing, Inside, Leaving}

-- The word with the lock's number: the slate's if the last job is pending, the receipt's if not.
abbrev pub lock_address : Bool → ℕ → Address
lock_address true worker = SlateLock worker
lock_address false worker = At worker

-- The stage at which the worker continues.
abbrev pub resume_stage : ResumePoint → Stage
resume_stage Ready = stage.Resting
resume_stage (Climbing lock held) = stage.Climbing record { lock = lock; held = held }
resume_stage (Inside lock pending) = reentry_stage pending lock
resume_stage (Leaving lock level) = stage.Leaving (Clear lock level)

-- The note of the last step of Recover.
abbrev pub resume_note : ResumePoint → Note
resume_note Ready = note.Ready
resume_note (Climbing lock held) = note.Quiet
resume_note (Inside lock pending) = note.Reentered lock
resume_note (Leaving lock level) = note.Quiet

-- The number of nodes of the path that were read: those that the worker holds, and the next one unless it holds its
-- whole path.
abbrev pub levels_read : Shape → ResumePoint → ℕ
levels_read shape Ready = 1
levels_read shape (Climbing lock held) = held + 1
levels_read shape (Inside lock pending) = shape.height
levels_read shape (Leaving lock level) = level + 1

-- The number of steps of Recover: two if no job was ever begun; if not, three and one for each node read.
abbrev pub steps_of_recover : Shape → ℕ → ResumePoint → ℕ
steps_of_recover shape begun Ready = if begun == 0 then 2 else 3 + levels_read shape Ready
steps_of_recover shape begun (Climbing lock held) = 3 + levels_read shape (Climbing lock held)
steps_of_recover shape begun (Inside lock pending) = 3 + levels_read shape (Inside lock pending)
steps_of_recover shape begun (Leaving lock level) = 3 + levels_read shape (Leaving lock level)

-- A number of steps, from `least` to `most`, led to where the worker continues.
pub record RecoverySteps (call : SeatCall) (begun : ℕ) (found : ResumePoint) (count least most : ℕ) : Type 0 where
  pub enough : least ≤ count
  pub few : count ≤ most
  pub doing : CallProgress call count begun (resume_stage found)
  pub note : call.end.part.note ≡ resume_note found
