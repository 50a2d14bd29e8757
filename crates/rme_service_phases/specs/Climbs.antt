-- The steps of one sweep of phase Enter.
use Rattle.std.specs.Prelude.{◌≡◌, ℕ, ◌+◌, ◌≤◌}
use Rattle.rme_words.specs.declared.shape.Shape.{Shape}
use Rattle.rme_program.specs.declared.stage.Stage.{Stage}
use Rattle.rme_program.specs.declared.stage.Stage.TheVariants.{Climbing, Logging}
use Rattle.rme_program.specs.declared.stage.Log.TheVariants.{LoadTurn}
use Rattle.rme_program.specs.declared.note.Note.{Note}
use Rattle.rme_program.specs.declared.note.Note.TheVariants as note
use Rattle.rme_service_steps.specs.CallSteps.{SeatCall, CallProgress}
use Rattle.rme_service_phases.specs.declared.climbing.Climbed.{Climbed}
use Rattle.rme_service_phases.specs.declared.climbing.Climbed.TheVariants.{Entered, Blocked}

-- The stage after the sweep, and the note of its last step.
abbrev pub stage_after_climb : ℕ → Climbed → Stage
stage_after_climb lock Entered = Logging (LoadTurn lock)
stage_after_climb lock (Blocked held) = Climbing record { lock = lock; held = held }

abbrev pub note_after_climb : ℕ → Climbed → Note
note_after_climb lock Entered = note.Entered lock
note_after_climb lock (Blocked held) = note.Blocked

-- The number of nodes that were tried, from the leaf up. If the worker got the lock, that is the whole path; if not,
-- the nodes that it now holds and the one that is not free.
abbrev pub levels_tried : Shape → Climbed → ℕ
levels_tried shape Entered = shape.height
levels_tried shape (Blocked held) = held + 1

-- The sweep made one step for each node that it tried, and ended with the lock or at the first node that is not free.
-- Each step before the last took its node, so none of them was blocked.
pub record SweepSteps (call : SeatCall) (lock held : ℕ) (climbed : Climbed) : Type 0 where
  pub count : ℕ
  pub tried : held + count ≡ levels_tried call.shape climbed
  pub some_step : 1 ≤ count
  pub few : count ≤ call.shape.height
  pub doing : CallProgress call count call.start.part.private.begun (stage_after_climb lock climbed)
  pub note : call.end.part.note ≡ note_after_climb lock climbed
