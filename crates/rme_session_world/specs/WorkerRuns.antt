-- Consecutive own steps of one worker.
use Rattle.std.specs.Prelude.{◌≡◌, ℕ, zero, suc, ◌+◌, Bool, true, false, Some, Ok, slice_get}
use Rattle.rme_program.specs.declared.kinds.Phase.{Phase}
use Rattle.rme_program.specs.declared.kinds.Phase.TheVariants as phase
use Rattle.rme_program.specs.declared.note.Note.{Note}
use Rattle.rme_program.specs.declared.private.Private.{Private}
use Rattle.rme_program.specs.Phases.{phase_of}
use Rattle.rme_world.specs.WorldViews.{WorldView}
use Rattle.rme_world.specs.Queries.{WorkerIsBlocked}
use Rattle.rme_world.specs.Calls.{StepContract}
use Rattle.rme_session_protocol.specs.PlannedCrashes.{IsCrashDue, PlanAfterSteps}
use Rattle.rme_session_protocol.specs.declared.planned_crash.PlannedCrash.{PlannedCrash}
use Rattle.rme_session_protocol.specs.declared.planned_crash.PlannedCrash.TheVariants.{Nothing}
use Rattle.rme_session_world.specs.declared.running.RunGoal.{RunGoal}
use Rattle.rme_session_world.specs.declared.running.RunGoal.TheVariants.{Rest, Inside}
use Rattle.rme_session_world.specs.declared.running.RunEnd.{RunEnd}
use Rattle.rme_session_world.specs.declared.running.RunEnd.TheVariants.{There, Stopped, Fallen}

-- A worker in this phase has reached its goal.
abbrev pub is_goal_reached : RunGoal → Phase → Bool
is_goal_reached Rest phase.Enter = true
is_goal_reached Rest phase.Section = true
is_goal_reached Inside phase.Section = true
is_goal_reached goal phase.Ready = true
is_goal_reached goal phase = false

-- The worker is up, with this private state.
abbrev pub IsWorkerUp : WorldView → ℕ → Type 0
IsWorkerUp seen worker = (private : Private) × (slice_get seen.privates worker ≡ Some (Some private))

-- It has not reached its goal, no other worker blocks it, and it makes its next own step.
pub record RunUntilStep (goal : RunGoal) (worker : ℕ) (old new : WorldView) : Type 0 where
  pub private : Private
  pub found : slice_get old.privates worker ≡ Some (Some private)
  pub away : is_goal_reached goal (phase_of private.stage) ≡ false
  pub free : WorkerIsBlocked old worker → ⊥
  pub note : Note
  pub stepped : StepContract old worker (Ok note) new

-- This number of own steps.
unfoldable pub RunStepSequence : RunGoal → ℕ → WorldView → ℕ → WorldView → Type 0
RunStepSequence goal worker old zero new = new ≡ old
RunStepSequence goal worker old (suc steps) new =
    (mid : WorldView) × RunUntilStep goal worker old mid × RunStepSequence goal worker mid steps new

-- Why the run ends.
abbrev pub IsRunEnd : RunGoal → ℕ → WorldView → RunEnd → Type 0
IsRunEnd goal worker now There =
    (private : Private) × (slice_get now.privates worker ≡ Some (Some private))
    × (is_goal_reached goal (phase_of private.stage) ≡ true)
IsRunEnd goal worker now Stopped = WorkerIsBlocked now worker
IsRunEnd goal worker now Fallen = Unit {0}

-- The rest of the plan afterwards: it was ticked before each own step, and before the one that would have been blocked.
abbrev pub PlanAfterRun : PlannedCrash → ℕ → RunEnd → PlannedCrash → Type 0
PlanAfterRun planned steps There left = PlanAfterSteps planned steps left
PlanAfterRun planned steps Stopped left = PlanAfterSteps planned (steps + 1) left
PlanAfterRun planned steps Fallen left = IsCrashDue planned steps × (left ≡ Nothing)
