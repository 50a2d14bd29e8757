-- Why a job is refused, from what the call looked up.
use Rattle.std.proofs.Common.{◌≡◌, ◌≢◌, ℕ, refl, ◌∙◌, inl, inr, sym}
use Rattle.std.specs.Prelude.{Bool, Option, Some, None, nat_lt, slice_get, if◌then◌else◌}
use Rattle.std.specs.List.{list_all}
use Rattle.std.proofs.lemmas.Bool.{cases_Bool}
use Rattle.rme_words.specs.declared.refusal.Refusal.{Refusal}
use Rattle.rme_words.specs.declared.refusal.Refusal.TheVariants.{NoWorker, Down, Busy, NoLock, BadScript, NoCell, TooManyJobs, NoMemory}
use Rattle.rme_words.specs.declared.shape.Shape.{Shape}
use Rattle.rme_script.specs.declared.job.Job.{Job}
use Rattle.rme_script.specs.Programs.{Program}
use Rattle.rme_script.specs.Scripts.{script_check, op_is_within}
use Rattle.rme_program.specs.declared.private.Private.{Private}
use Rattle.rme_program.specs.declared.stage.Stage.TheVariants.{Resting}
use Rattle.rme_world.specs.WorldViews.{WorldView}
use Rattle.rme_script.specs.JobRefusals.{job_refusal, refusal_or_next}
use Rattle.rme_world.specs.Refusals.{refusal_unless_up, is_resting_stage, worker_job_refusal, submit_refusal, RefusalIsGiven}

pub job_refused : (seen : WorldView) (worker : ℕ) (job : Job) (private : Private) (shape : Shape) (why : Option Refusal) → shape ≡ seen.shape → slice_get seen.privates worker ≡ Some (Some private) → private.stage ≡ Resting
    → why ≡ job_refusal shape private.begun job → submit_refusal seen worker job ≡ why
job_refused seen worker job private shape why same found ready checked = rw (found, ready, ← same) (sym checked)

pub submit_refused : (seen : WorldView) (worker : ℕ) (job : Job) (refusal : Refusal) → submit_refusal seen worker job ≡ Some refusal → RefusalIsGiven (submit_refusal seen worker job) refusal
submit_refused seen worker job refusal is = rw is refl

-- ---- none of these refusals is `NoMemory`

up_memory : (found : Option (Option Private)) (own : Private → Option Refusal) → ((private : Private) → own private ≢ Some NoMemory) → refusal_unless_up found own ≢ Some NoMemory
up_memory None own other is = (let f : Some NoWorker ≡ Some NoMemory = is in cc)
up_memory (Some None) own other is = (let f : Some Down ≡ Some NoMemory = is in cc)
up_memory (Some (Some private)) own other is = other private is

check_memory : (cells : ℕ) (script : Program) (rest : Option Refusal) → rest ≢ Some NoMemory → refusal_or_next (script_check cells script) rest ≢ Some NoMemory
check_memory cells script rest other is = elim (cases_Bool (nat_lt 8 script.n)) [
  | inl many ↦ (let f : Some BadScript ≡ Some NoMemory = rw many at is in cc)
  | inr few ↦ elim (cases_Bool (list_all (op_is_within cells) script.ops)) [
    | inl within ↦ (let f : rest ≡ Some NoMemory = rw (few, within) at is in other f)
    | inr beyond ↦ (let f : Some NoCell ≡ Some NoMemory = rw (few, beyond) at is in cc)
  ]
]

number_memory : (few : Bool) → (if few then None else Some TooManyJobs) ≢ Some NoMemory
number_memory few is = elim (cases_Bool few) [
  | inl t ↦ (let f : None ≡ Some NoMemory = rw t at is in cc)
  | inr t ↦ (let f : Some TooManyJobs ≡ Some NoMemory = rw t at is in cc)
]

job_memory : (seen : WorldView) (job : Job) (private : Private) → worker_job_refusal seen job private ≢ Some NoMemory
job_memory seen job private is = elim (cases_Bool (is_resting_stage private.stage)) [
  | inl ready ↦ elim (cases_Bool (nat_lt job.lock seen.shape.locks)) [
    | inl below ↦
        (let f : refusal_or_next (script_check seen.shape.cells job.script) (if nat_lt private.begun seen.shape.jobs then None else Some TooManyJobs) ≡ Some NoMemory = rw (ready, below) at is in
        check_memory seen.shape.cells job.script _ (number_memory (nat_lt private.begun seen.shape.jobs)) f)
    | inr beyond ↦ (let f : Some NoLock ≡ Some NoMemory = rw (ready, beyond) at is in cc)
  ]
  | inr busy ↦ (let f : Some Busy ≡ Some NoMemory = rw busy at is in cc)
]

same_refusal : (found : Option Refusal) (refusal : Refusal) → found ≡ Some refusal → found ≢ Some NoMemory → refusal ≢ NoMemory
same_refusal found refusal is other e = other (is ∙ some_same refusal e)
  where
    some_same : (r : Refusal) → r ≡ NoMemory → Some r ≡ Some NoMemory
    some_same r e = rw e refl

pub submit_memory : (seen : WorldView) (worker : ℕ) (job : Job) (refusal : Refusal) → submit_refusal seen worker job ≡ Some refusal → refusal ≢ NoMemory
submit_memory seen worker job refusal is = same_refusal _ refusal is (up_memory (slice_get seen.privates worker) (worker_job_refusal seen job) (job_memory seen job))
