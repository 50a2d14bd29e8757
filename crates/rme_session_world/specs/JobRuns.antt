-- The work of a worker of a world on its job.
use Rattle.std.specs.Prelude.{◌≡◌, ℕ, true, false, None, Ok}
use Rattle.rme_script.specs.declared.job.Job.{Job}
use Rattle.rme_session_protocol.specs.declared.planned_crash.PlannedCrash.{PlannedCrash}
use Rattle.rme_session_protocol.specs.declared.reply.JobOutcome.TheVariants.{Fell}
use Rattle.rme_world.specs.WorldViews.{WorldView}
use Rattle.rme_world.specs.WorldInvariants.{WorldInvariant}
use Rattle.rme_world.specs.Refusals.{submit_refusal}
use Rattle.rme_world.specs.Calls.{CrashContract, SubmitContract}
use Rattle.rme_session_world.specs.declared.running.RunGoal.{RunGoal}
use Rattle.rme_session_world.specs.declared.running.RunEnd.{RunEnd}
use Rattle.rme_session_world.specs.declared.running.RunEnd.TheVariants.{Fallen}
use Rattle.rme_session_world.specs.declared.work.WorkedJob.{WorkedJob}
use Rattle.rme_session_world.specs.Outcomes.{session_outcome}
use Rattle.rme_session_world.specs.WorkerSessions.{worker_session}
use Rattle.rme_session_world.specs.WorkerRuns.{IsRunEnd, PlanAfterRun, IsWorkerUp, RunStepSequence}

-- It crashes if its planned crash is due; otherwise it stays where its steps led it.
abbrev pub JobRunEnd : RunEnd → ℕ → WorldView → WorkedJob → WorldView → Type 0
JobRunEnd Fallen worker mid worked new =
    (worked.falls ≡ true) × (worked.outcome ≡ Fell) × CrashContract mid worker (Ok tt) new
JobRunEnd end worker mid worked new =
    (worked.falls ≡ false) × (worked.outcome ≡ session_outcome mid (worker_session mid worker)) × (new ≡ mid)

-- It made `worked.steps` own steps.
pub record JobContinuation (goal : RunGoal) (worker : ℕ) (planned : PlannedCrash) (old : WorldView) (worked : WorkedJob)
    (new : WorldView) : Type 0 where
  pub begun : WorldInvariant old
  pub mid : WorldView
  pub walks : RunStepSequence goal worker old worked.steps mid
  pub kept : WorldInvariant mid
  pub up : IsWorkerUp mid worker
  pub end : RunEnd
  pub is_end : IsRunEnd goal worker mid end
  pub spent : PlanAfterRun planned worked.steps end worked.left
  pub ends : JobRunEnd end worker mid worked new

-- A job that may be submitted to it, and was.
abbrev pub MaySubmitJob : WorldView → ℕ → Job → Type 0
MaySubmitJob seen worker job = submit_refusal seen worker job ≡ None

-- A job, and the crash that is planned for its worker.
pub record PlannedJob : Type 0 where
  pub job : Job
  pub planned : PlannedCrash

pub record JobSubmission (goal : RunGoal) (worker : ℕ) (its : PlannedJob) (old : WorldView) (worked : WorkedJob)
    (new : WorldView) : Type 0 where
  pub before : WorldInvariant old
  pub number : ℕ
  pub mid : WorldView
  pub submitted : SubmitContract old worker its.job (Ok number) mid
  pub went : JobContinuation goal worker its.planned mid worked new
