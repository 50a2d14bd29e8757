-- The jobs that a worker accepts, and the refusals of others, in order of priority.
use Rattle.std.specs.Prelude.{ℕ, Option, Some, None, Result, Ok, Err, nat_lt, if◌then◌else◌}
use Rattle.rme_words.specs.declared.shape.Shape.{Shape}
use Rattle.rme_words.specs.declared.refusal.Refusal.{Refusal}
use Rattle.rme_words.specs.declared.refusal.Refusal.TheVariants.{Busy, Idle, NoLock, BadScript, TooManyJobs, NotWaiting}
use Rattle.rme_script.specs.declared.job.Job.{Job}
use Rattle.rme_script.specs.Programs.{Program}
use Rattle.rme_script.specs.Scripts.{script_check}
use Rattle.rme_program.specs.declared.private.Private.{Private}
use Rattle.rme_program.specs.declared.stage.Stage.{Stage}
use Rattle.rme_program.specs.declared.stage.Stage.TheVariants.{Resting, Recovering, Posting, Climbing, Logging, Copying, Leaving}
use Rattle.rme_process_core.specs.declared.expected_slate.ExpectedSlate.{ExpectedSlate}

abbrev pub script_if_checked : Result (Unit {0}) Refusal → Program → Result Program Refusal
script_if_checked (Ok tt) script = Ok script
script_if_checked (Err refusal) script = Err refusal

-- The slate has a script on the shape's cells.
abbrev pub checked_script : Shape → Option Program → Result Program Refusal
checked_script shape None = Err BadScript
checked_script shape (Some script) = script_if_checked (script_check shape.cells script) script

-- A number is left for the job.
abbrev pub numbered_job : Shape → ℕ → ℕ → Result Program Refusal → Result Job Refusal
numbered_job shape begun lock (Ok script) =
    if nat_lt begun shape.jobs then Ok record { lock = lock; script = script } else Err TooManyJobs
numbered_job shape begun lock (Err refusal) = Err refusal

abbrev pub ready_job : Shape → ℕ → ℕ → Option Program → Result Job Refusal
ready_job shape begun lock script =
    if nat_lt lock shape.locks then numbered_job shape begun lock (checked_script shape script) else Err NoLock

-- The job that a worker is given, or the refusal: the worker is not ready, or it is for the lock, the script or the
-- number.
abbrev pub handed_job_at : Shape → ℕ → Stage → ℕ → Option Program → Result Job Refusal
handed_job_at shape begun Resting lock script = ready_job shape begun lock script
handed_job_at shape begun (Recovering recovery) lock script = Err Busy
handed_job_at shape begun (Posting slate) lock script = Err Busy
handed_job_at shape begun (Climbing ascent) lock script = Err Busy
handed_job_at shape begun (Logging log) lock script = Err Busy
handed_job_at shape begun (Copying redo) lock script = Err Busy
handed_job_at shape begun (Leaving departure) lock script = Err Busy

abbrev pub handed_job_of : Shape → Private → ℕ → Option Program → Result Job Refusal
handed_job_of shape private lock script = handed_job_at shape private.begun private.stage lock script

-- The refusal of a withdrawal.
abbrev pub stage_withdraw_refusal : Stage → Option Refusal
stage_withdraw_refusal Resting = Some Idle
stage_withdraw_refusal (Climbing ascent) = None
stage_withdraw_refusal (Recovering recovery) = Some NotWaiting
stage_withdraw_refusal (Posting slate) = Some NotWaiting
stage_withdraw_refusal (Logging log) = Some NotWaiting
stage_withdraw_refusal (Copying redo) = Some NotWaiting
stage_withdraw_refusal (Leaving departure) = Some NotWaiting

-- A ready worker has no step.
abbrev pub stage_step_refusal : Stage → Option Refusal
stage_step_refusal Resting = Some Idle
stage_step_refusal (Recovering recovery) = None
stage_step_refusal (Posting slate) = None
stage_step_refusal (Climbing ascent) = None
stage_step_refusal (Logging log) = None
stage_step_refusal (Copying redo) = None
stage_step_refusal (Leaving departure) = None

-- The script of an expected slate, or the refusal.
abbrev pub expected_script : Result ExpectedSlate Refusal → Result Program Refusal
expected_script (Ok guess) = Ok guess.script
expected_script (Err refusal) = Err refusal
