-- Why a worker is refused a job.
use Rattle.std.specs.Prelude.{ℕ, nat_lt, Option, Some, None, Result, Ok, Err, if◌then◌else◌}
use Rattle.rme_words.specs.declared.shape.Shape.{Shape}
use Rattle.rme_words.specs.declared.refusal.Refusal.{Refusal}
use Rattle.rme_words.specs.declared.refusal.Refusal.TheVariants.{NoLock, TooManyJobs}
use Rattle.rme_script.specs.declared.job.Job.{Job}
use Rattle.rme_script.specs.Scripts.{script_check}

-- The refusal that a check found, or else the next one.
abbrev pub refusal_or_next : Result (Unit {0}) Refusal → Option Refusal → Option Refusal
refusal_or_next (Ok tt) rest = rest
refusal_or_next (Err refusal) rest = Some refusal

-- A job is refused for its lock, its script, and the number of jobs: at this many locks, cells and jobs, for a worker
-- that has begun this many.
abbrev pub job_refusal_within : ℕ → ℕ → ℕ → ℕ → Job → Option Refusal
job_refusal_within locks cells jobs begun job =
    if nat_lt job.lock locks then refusal_or_next (script_check cells job.script)
    (if nat_lt begun jobs then None else Some TooManyJobs) else Some NoLock

abbrev pub job_refusal : Shape → ℕ → Job → Option Refusal
job_refusal shape = job_refusal_within shape.locks shape.cells shape.jobs
