-- The effect of an order on the session view, and its answer.
use Rattle.std.specs.Prelude.{◌≡◌, ◌⊎◌, ℕ, ◌≤◌, ◌==◌, Bool, true, false, Option, Some, None}
use Rattle.rme_words.specs.declared.shape.Shape.{Shape}
use Rattle.rme_script.specs.declared.job.Job.{Job}
use Rattle.rme_program.specs.declared.note.Receipt.{Receipt}
use Rattle.rme_session_protocol.specs.Patience.{least_tries}
use Rattle.rme_session_protocol.specs.declared.reply.FencingToken.{FencingToken}
use Rattle.rme_session_protocol.specs.declared.reply.JobOutcome.{JobOutcome}
use Rattle.rme_session_protocol.specs.declared.reply.PendingJob.{PendingJob}
use Rattle.rme_session_protocol.specs.declared.reply.JobOutcome.TheVariants as outcome
use Rattle.rme_session_protocol.specs.declared.reply.SessionStance.{SessionStance}
use Rattle.rme_session_protocol.specs.declared.reply.SessionStance.TheVariants as standing
use Rattle.rme_session_protocol.specs.declared.reply.SessionReply.{SessionReply}
use Rattle.rme_session_protocol.specs.declared.reply.SessionReply.TheVariants as reply
use Rattle.rme_session_protocol.specs.declared.order.Order.{Order}
use Rattle.rme_session_protocol.specs.declared.order.Order.TheVariants as order
use Rattle.rme_session_protocol.specs.declared.order.Submission.{Submission}
use Rattle.rme_session_protocol.specs.PlannedCrashes.{IsCrashDue, PlanAfterSteps}
use Rattle.rme_session_protocol.specs.Refusals.{IsWorkerUnavailableWithin, OrderRefusalWithin, ServiceSizes, service_sizes}
use Rattle.rme_session_protocol.specs.SessionViews.{IsJobReceipt, WorkerJob, finished_worker, withdrawn_worker, pending_worker_job, next_worker_job, detached_view, waiting_worker}
use Rattle.rme_session_protocol.specs.declared.planned_crash.PlannedCrash.TheVariants.{Nothing, After}
use Rattle.rme_session_protocol.specs.declared.view.PendingWorker.{PendingWorker}
use Rattle.rme_session_protocol.specs.declared.view.ReadyWorker.{ReadyWorker}
use Rattle.rme_session_protocol.specs.declared.view.Session.{Session}
use Rattle.rme_session_protocol.specs.declared.view.Session.TheVariants.{Nobody, Ready, Climb, Held}
use Rattle.rme_session_protocol.specs.declared.view.SessionView.{SessionView}

-- ATTACH: the session has this worker, and the answer has its number and its stance.
abbrev pub AttachOrderEffect : ℕ → Session → ℕ → SessionStance → Type 0
AttachOrderEffect worker (Ready ready) number standing.Ready = (ready.worker ≡ worker) × (ready.number ≡ number)
AttachOrderEffect worker (Climb pending) number standing.Climb = (pending.worker ≡ worker) × (pending.number ≡ number)
AttachOrderEffect worker (Held pending) number standing.Held = (pending.worker ≡ worker) × (pending.number ≡ number)
AttachOrderEffect worker session number its = ⊥

-- A worker worked on a job. The job is finished, and its receipt is the answer; or it still waits; or the worker
-- crashed, and the session has none.
abbrev pub JobEffect : WorkerJob → Session → JobOutcome → Type 0
JobEffect task (Ready ready) (outcome.Receipt receipt) =
    IsJobReceipt task receipt × (ready ≡ finished_worker task receipt)
JobEffect task (Climb pending) outcome.Waiting = pending ≡ waiting_worker task
JobEffect task Nobody outcome.Fell = Unit {0}
JobEffect task session became = ⊥

-- It continued the job that it had.
abbrev pub PendingJobEffect : PendingWorker → Session → JobOutcome → Type 0
PendingJobEffect start (Ready ready) (outcome.Receipt receipt) =
    (job : Job) × (start.draft ≡ Some job)
    × JobEffect (pending_worker_job start job) (Ready ready) (outcome.Receipt receipt)
PendingJobEffect start (Climb pending) outcome.Waiting = pending ≡ start
PendingJobEffect start Nobody outcome.Fell = Unit {0}
PendingJobEffect start session became = ⊥

-- The last number is answered again, by its receipt or as withdrawn, and the worker is unchanged.
abbrev pub last_outcome : Option Receipt → JobOutcome
last_outcome (Some receipt) = outcome.Receipt receipt
last_outcome None = outcome.Withdrawn

abbrev pub RepeatEffect : ReadyWorker → Session → JobOutcome → Type 0
RepeatEffect ready session became = (session ≡ Ready ready) × (became ≡ last_outcome ready.last)

-- A submission to a ready worker is a repetition, or its job is posted with the next number.
abbrev pub ReadySubmitEffect : Bool → ReadyWorker → Job → Session → JobOutcome → Type 0
ReadySubmitEffect true ready job session became = RepeatEffect ready session became
ReadySubmitEffect false ready job session became = JobEffect (next_worker_job ready job) session became

-- SUBMIT: a ready worker answers its last number again, or posts the job; a worker with a job continues it.
abbrev pub SubmitOrderEffect : Session → Submission → Session → JobOutcome → Type 0
SubmitOrderEffect Nobody its session became = ⊥
SubmitOrderEffect (Ready ready) its session became =
    ReadySubmitEffect (its.number == ready.number) ready its.job session became
SubmitOrderEffect (Climb pending) its session became = PendingJobEffect pending session became
SubmitOrderEffect (Held pending) its session became = PendingJobEffect pending session became

-- ENTER: a ready worker answers its last number again, or posts the job; a worker with a job continues it. It stops
-- when it is inside, owning the job's lock, and answers the number. A worker that is already inside makes no step.
abbrev pub EnterPendingEffect : PendingWorker → Session → JobOutcome → Type 0
EnterPendingEffect start (Held pending) (outcome.Inside token) = (pending ≡ start) × (token.number ≡ start.number)
EnterPendingEffect start (Climb pending) outcome.Waiting = pending ≡ start
EnterPendingEffect start Nobody outcome.Fell = Unit {0}
EnterPendingEffect start session became = ⊥

abbrev pub ReadyEnterEffect : Bool → ReadyWorker → Job → Session → JobOutcome → Type 0
ReadyEnterEffect true ready job session became = RepeatEffect ready session became
ReadyEnterEffect false ready job session became =
    EnterPendingEffect (waiting_worker (next_worker_job ready job)) session became

abbrev pub EnterOrderEffect : ℕ → Session → Submission → Session → JobOutcome → Type 0
EnterOrderEffect made Nobody its session became = ⊥
EnterOrderEffect made (Ready ready) its session became =
    ReadyEnterEffect (its.number == ready.number) ready its.job session became
EnterOrderEffect made (Climb pending) its session became = EnterPendingEffect pending session became
EnterOrderEffect made (Held pending) its session became =
    (made ≡ 0) × (session ≡ Held pending) × EnterPendingEffect pending (Held pending) became

-- THE FENCING TOKEN. A worker that is inside is told the lock that it owns, and the number of the lock's finished
-- sections, which the state of a server determines.
abbrev pub TokenSection : (ℕ → ℕ → Type 0) → PendingWorker → FencingToken → Type 0
TokenSection HasFinished pending token =
    (job : Job) × (pending.draft ≡ Some job) × (token.lock ≡ job.lock) × HasFinished token.lock token.section

abbrev pub TellsSection : (ℕ → ℕ → Type 0) → Session → SessionReply → Type 0
TellsSection HasFinished (Held pending) (reply.Entered (outcome.Inside token)) =
    TokenSection HasFinished pending token
TellsSection HasFinished session answer = Unit {0}

-- The token also tells the number of the worker's restarts, which the server counts.
abbrev pub TellsLife : (ℕ → ℕ → Type 0) → Session → SessionReply → Type 0
TellsLife HasLife (Held pending) (reply.Entered (outcome.Inside token)) = HasLife pending.worker token.life
TellsLife HasLife session answer = Unit {0}

-- The receipt of a commit has the place that was told: the number of the lock's finished sections before it.
abbrev pub TellsPlace : (ℕ → ℕ → Type 0) → SessionReply → Type 0
TellsPlace HasFinished (reply.Committed (outcome.Receipt receipt)) = HasFinished receipt.lock receipt.place
TellsPlace HasFinished answer = Unit {0}

-- COMMIT: the worker inside finishes its job, or crashes.
abbrev pub CommitOrderEffect : Session → Session → JobOutcome → Type 0
CommitOrderEffect (Held start) (Ready ready) (outcome.Receipt receipt) =
    PendingJobEffect start (Ready ready) (outcome.Receipt receipt)
CommitOrderEffect (Held start) Nobody outcome.Fell = Unit {0}
CommitOrderEffect other session became = ⊥

-- RESUME: the worker continues its job.
abbrev pub ResumeOrderEffect : Session → Session → JobOutcome → Type 0
ResumeOrderEffect (Climb pending) session became = PendingJobEffect pending session became
ResumeOrderEffect (Held pending) session became = PendingJobEffect pending session became
ResumeOrderEffect other session became = ⊥

-- WITHDRAW: the worker that waited is ready, and its job's number is withdrawn.
abbrev pub WithdrawOrderEffect : Session → Session → ℕ → Type 0
WithdrawOrderEffect (Climb pending) (Ready ready) number =
    (ready ≡ withdrawn_worker pending) × (number ≡ pending.number)
WithdrawOrderEffect other session number = ⊥

-- LAST: the last receipt, or none.
abbrev pub LastOrderEffect : Session → Option Receipt → Type 0
LastOrderEffect (Ready ready) receipt = receipt ≡ ready.last
LastOrderEffect other receipt = ⊥

-- PENDING: the worker's job, as it was submitted, with its number and the worker's stance.
abbrev pub IsPendingJob : PendingWorker → SessionStance → PendingJob → Type 0
IsPendingJob pending stance told =
    (told.number ≡ pending.number) × (pending.draft ≡ Some told.job) × (told.stance ≡ stance)

abbrev pub PendingOrderEffect : Session → PendingJob → Type 0
PendingOrderEffect (Climb pending) told = IsPendingJob pending standing.Climb told
PendingOrderEffect (Held pending) told = IsPendingJob pending standing.Held told
PendingOrderEffect other told = ⊥

-- A worker that crashes made exactly the planned number of own steps; the session then has no worker, and nothing is
-- planned. Without a crash, the planned one comes earlier by the steps that the worker made.
abbrev pub PlanAfterOrder : ℕ → SessionView → SessionView → JobOutcome → Type 0
PlanAfterOrder made old now outcome.Fell = IsCrashDue old.planned made × (now ≡ detached_view)
PlanAfterOrder made old now became = PlanAfterSteps old.planned made now.planned

-- A job waits only after this number of tries, each with at least one own step.
abbrev pub WaitsAfterTries : ℕ → ℕ → JobOutcome → Type 0
WaitsAfterTries tries made outcome.Waiting = tries ≤ made
WaitsAfterTries tries made became = Unit {0}

-- The effect and the answer of an order that is not refused, with the number of own steps that the worker made. The own
-- steps of a recovery do not count for a plan.
abbrev pub OrderEffect : ℕ → SessionView → Order → SessionView → SessionReply → Type 0
OrderEffect made old (order.Attach its) now (reply.Attached number stance) =
    AttachOrderEffect its.worker now.session number stance × (now.planned ≡ Nothing)
OrderEffect made old (order.Submit its) now (reply.Submitted became) =
    SubmitOrderEffect old.session its now.session became × PlanAfterOrder made old now became
    × WaitsAfterTries (least_tries its.patience) made became
OrderEffect made old (order.Resume patience) now (reply.Resumed became) =
    ResumeOrderEffect old.session now.session became × PlanAfterOrder made old now became
    × WaitsAfterTries (least_tries patience) made became
OrderEffect made old (order.Enter its) now (reply.Entered became) =
    EnterOrderEffect made old.session its now.session became × PlanAfterOrder made old now became
    × WaitsAfterTries (least_tries its.patience) made became
OrderEffect made old order.Commit now (reply.Committed became) =
    CommitOrderEffect old.session now.session became × PlanAfterOrder made old now became
OrderEffect made old order.Withdraw now (reply.Withdrew number) =
    WithdrawOrderEffect old.session now.session number × PlanAfterSteps old.planned made now.planned
OrderEffect made old order.Withdraw now reply.WithdrawFell = IsCrashDue old.planned made × (now ≡ detached_view)
OrderEffect made old order.Last now (reply.Last receipt) = LastOrderEffect old.session receipt × (now ≡ old)
OrderEffect made old (order.CrashAfter steps) now reply.CrashPlanned =
    now ≡ record { session = old.session; planned = After steps }
OrderEffect made old order.Detach now reply.Detached = now ≡ detached_view
OrderEffect made old order.Ping now reply.Pong = now ≡ old
OrderEffect made old order.Pending now (reply.Pending told) = PendingOrderEffect old.session told × (now ≡ old)
OrderEffect made old its now answer = ⊥

-- A session of a service of these sizes executed an order, with this number of own steps: either the order is refused
-- here, with this answer, and the session is unchanged; or it is not refused, and it had its effect.
abbrev pub SessionStepWithin : ServiceSizes → ℕ → SessionView → Order → SessionView → SessionReply → Type 0
SessionStepWithin sizes made old its now (reply.Refused why) =
    (now ≡ old)
    × (OrderRefusalWithin sizes old.session its (Some why) ⊎ IsWorkerUnavailableWithin sizes old.session its why)
SessionStepWithin sizes made old its now answer =
    OrderRefusalWithin sizes old.session its None × OrderEffect made old its now answer

abbrev pub SessionStepInSteps : Shape → ℕ → SessionView → Order → SessionView → SessionReply → Type 0
SessionStepInSteps shape = SessionStepWithin (service_sizes shape)

abbrev pub SessionStep : Shape → SessionView → Order → SessionView → SessionReply → Type 0
SessionStep shape old its now answer = (made : ℕ) × SessionStepInSteps shape made old its now answer
