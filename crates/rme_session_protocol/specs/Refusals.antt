-- The refusals of a session's orders.
use Rattle.std.specs.Prelude.{◌≡◌, ◌≢◌, ℕ, ◌+◌, ◌<◌, ◌==◌, nat_lt, if◌then◌else◌, Option, Some, None, IsSome}
use Rattle.rme_words.specs.declared.shape.Shape.{Shape}
use Rattle.rme_words.specs.declared.refusal.Refusal.{Refusal}
use Rattle.rme_words.specs.declared.refusal.Refusal.TheVariants.{NoWorker, Busy, Idle, WrongNumber, Differs, NotAttached, NotWaiting, NotInside, Overtaken, Taken}
use Rattle.rme_script.specs.declared.job.Job.{Job}
use Rattle.rme_script.specs.JobRefusals.{job_refusal_within}
use Rattle.rme_session_protocol.specs.declared.order.Order.{Order}
use Rattle.rme_session_protocol.specs.declared.order.Order.TheVariants.{Attach, Submit, Resume, Enter, Commit, Withdraw, Last, CrashAfter, Detach, Ping, Pending}
use Rattle.rme_session_protocol.specs.declared.order.Submission.{Submission}
use Rattle.rme_session_protocol.specs.declared.refusal.SubmissionKind.{SubmissionKind}
use Rattle.rme_session_protocol.specs.declared.refusal.SubmissionKind.TheVariants.{Post, Repeat}
use Rattle.rme_session_protocol.specs.declared.view.Session.{Session}
use Rattle.rme_session_protocol.specs.declared.view.Session.TheVariants as at

-- The numbers of workers, of locks, of cells of each lock, and of jobs of each worker. Those of a shape have limits; a
-- service that outlives one world has more jobs than a world.
pub record ServiceSizes : Type 0 where
  pub workers : ℕ
  pub locks : ℕ
  pub cells : ℕ
  pub jobs : ℕ

abbrev pub service_sizes : Shape → ServiceSizes
service_sizes shape = record { workers = shape.workers; locks = shape.locks; cells = shape.cells; jobs = shape.jobs }

-- ATTACH: there is no such worker, or the session already has one.
abbrev pub busy_refusal : Session → Option Refusal
busy_refusal at.Nobody = None
busy_refusal session = Some Busy

abbrev pub attach_refusal_within : ServiceSizes → ℕ → Session → Option Refusal
attach_refusal_within sizes worker session = if nat_lt worker sizes.workers then busy_refusal session else Some NoWorker

abbrev pub attach_refusal : Shape → ℕ → Session → Option Refusal
attach_refusal shape = attach_refusal_within (service_sizes shape)

-- SUBMIT, ENTER

-- A new job is refused as every server refuses one.
abbrev pub new_job_refusal_within : ServiceSizes → ℕ → Job → Option Refusal
new_job_refusal_within sizes = job_refusal_within sizes.locks sizes.cells sizes.jobs

-- Without a pending job the last number is answered again, unless it is 0, and the next number's job may be posted.
abbrev pub repeat_refusal : ℕ → ℕ → Option Refusal
repeat_refusal last number =
    if nat_lt 0 number then (if number == last then None else Some (WrongNumber (last + 1))) else Some
    (WrongNumber (last + 1))

abbrev pub number_refusal : ℕ → ℕ → Option Refusal
number_refusal last number = if number == last + 1 then None else repeat_refusal last number

abbrev pub posting_refusal_within : ServiceSizes → ℕ → Submission → Option Refusal
posting_refusal_within sizes last its =
    if its.number == last + 1 then new_job_refusal_within sizes last its.job else repeat_refusal last its.number

abbrev pub posting_refusal : Shape → ℕ → Submission → Option Refusal
posting_refusal shape = posting_refusal_within (service_sizes shape)

-- What a number that is not refused asks for.
abbrev pub IsSubmissionKind : ℕ → ℕ → SubmissionKind → Type 0
IsSubmissionKind last number Post = number ≡ last + 1
IsSubmissionKind last number Repeat = (0 < number) × (number ≡ last)

-- With a pending job, the submission has its number and the same job, or its number and another job, or another number.
abbrev pub PendingJobRefusal : ℕ → Option Job → Submission → Option Refusal → Type 0
PendingJobRefusal number draft its None = (its.number ≡ number) × (draft ≡ Some its.job)
PendingJobRefusal number draft its (Some Differs) = (its.number ≡ number) × (draft ≢ Some its.job)
PendingJobRefusal number draft its (Some why) = (its.number ≢ number) × (why ≡ WrongNumber number)

abbrev pub SubmitRefusalWithin : ServiceSizes → Session → Submission → Option Refusal → Type 0
SubmitRefusalWithin sizes at.Nobody its why = why ≡ Some NotAttached
SubmitRefusalWithin sizes (at.Ready ready) its why = why ≡ posting_refusal_within sizes ready.number its
SubmitRefusalWithin sizes (at.Climb pending) its why = PendingJobRefusal pending.number pending.draft its why
SubmitRefusalWithin sizes (at.Held pending) its why = PendingJobRefusal pending.number pending.draft its why

abbrev pub SubmitRefusal : Shape → Session → Submission → Option Refusal → Type 0
SubmitRefusal shape = SubmitRefusalWithin (service_sizes shape)

-- RESUME and PENDING, COMMIT, WITHDRAW, LAST: the session has no worker, or its worker is in another stance.
abbrev pub resume_refusal : Session → Option Refusal
resume_refusal at.Nobody = Some NotAttached
resume_refusal (at.Ready ready) = Some Idle
resume_refusal session = None

abbrev pub commit_refusal : Session → Option Refusal
commit_refusal at.Nobody = Some NotAttached
commit_refusal (at.Ready ready) = Some Idle
commit_refusal (at.Climb pending) = Some NotInside
commit_refusal (at.Held pending) = None

abbrev pub withdraw_order_refusal : Session → Option Refusal
withdraw_order_refusal at.Nobody = Some NotAttached
withdraw_order_refusal (at.Climb pending) = None
withdraw_order_refusal session = Some NotWaiting

abbrev pub last_refusal : Session → Option Refusal
last_refusal at.Nobody = Some NotAttached
last_refusal (at.Ready ready) = None
last_refusal session = Some Busy

-- CRASH_AFTER, DETACH: the session has no worker.
abbrev pub bare_refusal : Session → Option Refusal
bare_refusal at.Nobody = Some NotAttached
bare_refusal session = None

-- The refusal of an order by its session, or none. The availability of a worker to attach is separate, in
-- `IsWorkerUnavailableWithin`.
abbrev pub OrderRefusalWithin : ServiceSizes → Session → Order → Option Refusal → Type 0
OrderRefusalWithin sizes session (Attach its) why = why ≡ attach_refusal_within sizes its.worker session
OrderRefusalWithin sizes session (Submit its) why = SubmitRefusalWithin sizes session its why
OrderRefusalWithin sizes session (Resume patience) why = why ≡ resume_refusal session
OrderRefusalWithin sizes session (Enter its) why = SubmitRefusalWithin sizes session its why
OrderRefusalWithin sizes session Commit why = why ≡ commit_refusal session
OrderRefusalWithin sizes session Withdraw why = why ≡ withdraw_order_refusal session
OrderRefusalWithin sizes session Last why = why ≡ last_refusal session
OrderRefusalWithin sizes session (CrashAfter steps) why = why ≡ bare_refusal session
OrderRefusalWithin sizes session Detach why = why ≡ bare_refusal session
OrderRefusalWithin sizes session Ping why = why ≡ None
OrderRefusalWithin sizes session Pending why = why ≡ resume_refusal session

abbrev pub OrderRefusal : Shape → Session → Order → Option Refusal → Type 0
OrderRefusal shape = OrderRefusalWithin (service_sizes shape)

-- A worker that a session may attach is unavailable: another session has it, or the server has none with that number,
-- or it was restarted since the life that the order has.
abbrev pub IsWorkerUnavailableWithin : ServiceSizes → Session → Order → Refusal → Type 0
IsWorkerUnavailableWithin sizes session (Attach its) Taken = attach_refusal_within sizes its.worker session ≡ None
IsWorkerUnavailableWithin sizes session (Attach its) NoWorker = attach_refusal_within sizes its.worker session ≡ None
IsWorkerUnavailableWithin sizes session (Attach its) Overtaken =
    (attach_refusal_within sizes its.worker session ≡ None) × IsSome its.after
IsWorkerUnavailableWithin sizes session its why = ⊥

abbrev pub IsWorkerUnavailable : Shape → Session → Order → Refusal → Type 0
IsWorkerUnavailable shape = IsWorkerUnavailableWithin (service_sizes shape)
