-- The refusals of each event, in order of priority. `None` stands for no refusal.
use Rattle.std.specs.Prelude.{◌≡◌, ℕ, Bool, true, false, Option, Some, None, slice_get, if◌then◌else◌}
use Rattle.rme_words.specs.declared.refusal.Refusal.{Refusal}
use Rattle.rme_words.specs.declared.refusal.Refusal.TheVariants.{NoWorker, Down, Up, Busy, Idle, NotWaiting, NoMemory}
use Rattle.rme_script.specs.declared.job.Job.{Job}
use Rattle.rme_script.specs.JobRefusals.{job_refusal}
use Rattle.rme_program.specs.declared.private.Private.{Private}
use Rattle.rme_program.specs.declared.stage.Stage.{Stage}
use Rattle.rme_program.specs.declared.stage.Stage.TheVariants.{Resting, Recovering, Posting, Climbing, Logging, Copying, Leaving}
use Rattle.rme_world.specs.WorldViews.{WorldView}

abbrev pub is_resting_stage : Stage → Bool
is_resting_stage Resting = true
is_resting_stage (Recovering recovery) = false
is_resting_stage (Posting slate) = false
is_resting_stage (Climbing ascent) = false
is_resting_stage (Logging log) = false
is_resting_stage (Copying redo) = false
is_resting_stage (Leaving departure) = false

abbrev pub is_climbing_stage : Stage → Bool
is_climbing_stage Resting = false
is_climbing_stage (Recovering recovery) = false
is_climbing_stage (Posting slate) = false
is_climbing_stage (Climbing ascent) = true
is_climbing_stage (Logging log) = false
is_climbing_stage (Copying redo) = false
is_climbing_stage (Leaving departure) = false

-- The refusal of an event that needs an up worker: no such worker, or the worker is down, or a refusal from its private
-- state.
abbrev pub refusal_unless_up : Option (Option Private) → (Private → Option Refusal) → Option Refusal
refusal_unless_up None own = Some NoWorker
refusal_unless_up (Some None) own = Some Down
refusal_unless_up (Some (Some private)) own = own private

abbrev pub step_refusal : WorldView → ℕ → Option Refusal
step_refusal seen worker =
    refusal_unless_up (slice_get seen.privates worker)
    (λ (private : Private). if is_resting_stage private.stage then Some Idle else None)

abbrev pub crash_refusal : WorldView → ℕ → Option Refusal
crash_refusal seen worker = refusal_unless_up (slice_get seen.privates worker) (λ (private : Private). None)

abbrev pub withdraw_refusal : WorldView → ℕ → Option Refusal
withdraw_refusal seen worker =
    refusal_unless_up (slice_get seen.privates worker)
    (λ (private : Private). if is_climbing_stage private.stage then None else Some NotWaiting)

-- Only a down worker can be restarted.
abbrev pub refusal_unless_down : Option (Option Private) → Option Refusal
refusal_unless_down None = Some NoWorker
refusal_unless_down (Some None) = None
refusal_unless_down (Some (Some private)) = Some Up

abbrev pub restart_refusal : WorldView → ℕ → Option Refusal
restart_refusal seen worker = refusal_unless_down (slice_get seen.privates worker)

-- A job is refused to a worker that is not ready, and else as every server refuses one.
abbrev pub worker_job_refusal : WorldView → Job → Private → Option Refusal
worker_job_refusal seen job private =
    if is_resting_stage private.stage then job_refusal seen.shape private.begun job else Some Busy

abbrev pub submit_refusal : WorldView → ℕ → Job → Option Refusal
submit_refusal seen worker job = refusal_unless_up (slice_get seen.privates worker) (worker_job_refusal seen job)

-- `NoMemory` has the lowest priority.
abbrev pub RefusalIsGiven : Option Refusal → Refusal → Type 0
RefusalIsGiven (Some refusal) given = given ≡ refusal
RefusalIsGiven None given = given ≡ NoMemory
