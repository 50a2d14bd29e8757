-- A session step in a world is a session step over all epochs, as clients see it.
use Rattle.std.proofs.Common.{◌≡◌, ℕ, ◌+◌, ◌-◌, ◌<◌, arith, refl, sym, ap, ◌∙◌, subst, inl, inr}
use Rattle.std.specs.Prelude.{◌==◌, ◌&&◌, zero, suc, nat_lt, Bool, true, false, Option, Some, None, if◌then◌else◌}
use Rattle.std.proofs.lemmas.Bool.{and_parts, eqb-true, ne_eqb, ltb-true}
use Rattle.std.proofs.lemmas.Option.{none-some, same_Some}
use Rattle.rme_words.specs.declared.shape.Shape.{Shape}
use Rattle.rme_words.specs.declared.refusal.Refusal.TheVariants.{Busy, NoWorker}
use Rattle.rme_script.specs.declared.job.Job.{Job}
use Rattle.rme_program.specs.declared.note.Receipt.{Receipt}
use Rattle.rme_session_protocol.specs.declared.reply.JobOutcome.{JobOutcome}
use Rattle.rme_session_protocol.specs.declared.reply.JobOutcome.TheVariants as outcome
use Rattle.rme_session_protocol.specs.declared.reply.PendingJob.{PendingJob}
use Rattle.rme_session_protocol.specs.declared.reply.SessionStance.{SessionStance}
use Rattle.rme_session_protocol.specs.declared.reply.SessionStance.TheVariants as standing
use Rattle.rme_session_protocol.specs.declared.reply.SessionReply.{SessionReply}
use Rattle.rme_session_protocol.specs.declared.reply.SessionReply.TheVariants as reply
use Rattle.rme_session_protocol.specs.declared.order.Attachment.{Attachment}
use Rattle.rme_session_protocol.specs.declared.order.Order.{Order}
use Rattle.rme_session_protocol.specs.declared.order.Order.TheVariants as order
use Rattle.rme_session_protocol.specs.declared.order.Submission.{Submission}
use Rattle.rme_session_protocol.specs.SessionSteps.{AttachOrderEffect, CommitOrderEffect, OrderEffect, EnterOrderEffect, EnterPendingEffect, PendingJobEffect, ReadySubmitEffect, ReadyEnterEffect, PlanAfterOrder, WaitsAfterTries, LastOrderEffect, PendingOrderEffect, SessionStepInSteps, SessionStepWithin, ResumeOrderEffect, SubmitOrderEffect, WithdrawOrderEffect, JobEffect, last_outcome}
use Rattle.rme_session_protocol.specs.Attempts.{submission_with_tries, with_tries}
use Rattle.rme_session_protocol.specs.Refusals.{OrderRefusal, ServiceSizes, attach_refusal, posting_refusal, posting_refusal_within}
use Rattle.rme_session_protocol.specs.SessionViews.{IsJobReceipt, WorkerJob, withdrawn_worker, pending_worker_job, next_worker_job, waiting_worker}
use Rattle.rme_session_protocol.specs.declared.planned_crash.PlannedCrash.{PlannedCrash}
use Rattle.rme_session_protocol.specs.declared.planned_crash.PlannedCrash.TheVariants.{Nothing}
use Rattle.rme_session_protocol.specs.declared.view.PendingWorker.{PendingWorker}
use Rattle.rme_session_protocol.specs.declared.view.ReadyWorker.{ReadyWorker}
use Rattle.rme_session_protocol.specs.declared.view.Session.{Session}
use Rattle.rme_session_protocol.specs.declared.view.Session.TheVariants.{Nobody, Ready, Climb, Held}
use Rattle.rme_session_protocol.specs.declared.view.SessionView.{SessionView}
use Rattle.rme_session_protocol.proofs.Counting.{leaves_none}
use Rattle.rme_session_protocol.proofs.Refusing.{last_repeated_within}
use Rattle.rme_durable_epochs.specs.ClientValues.{client_last, numbers_for, epoch_order, client_outcome, worker_base, client_pending, client_pending_job, client_ready, client_receipt, client_reply, client_session, client_sizes, epoch_submission, client_view}
use Rattle.rme_durable_epochs.specs.ImmediateReplies.{is_repeat_submission, immediate_reply}
use Rattle.rme_durable_epochs.specs.declared.epoch_base.Base.{Base}
use Rattle.rme_durable_epochs.specs.declared.epoch_base.WorkerBase.{WorkerBase}
use Rattle.rme_durable_epochs.proofs.Numbering.{HasNumber}
use Rattle.rme_durable_epochs.proofs.Refusals.{AsksMore, IsNew, is_next, misses_over, refuses_over}

module _ (base : Base) where
  abbrev before : ℕ → ℕ
  before worker = (worker_base base worker).numbers

  abbrev task_over : WorkerJob → WorkerJob
  task_over task = record { worker = task.worker; number = before task.worker + task.number; job = task.job }

  receipt_of : (task : WorkerJob) (receipt : Receipt) → IsJobReceipt task receipt → IsJobReceipt (task_over task) (client_receipt base (before task.worker) receipt)
  receipt_of task receipt is = record { by = is.by; number = ap (λ (n : ℕ). before task.worker + n) is.number; lock = is.lock }

  works_over : (task : WorkerJob) (session : Session) (became : JobOutcome) → JobEffect task session became → JobEffect (task_over task) (client_session base session) (client_outcome base (before task.worker) became)
  works_over task (Ready ready) (outcome.Receipt receipt) (is, same) = (receipt_of task receipt is, ap (client_ready base) same)
  works_over task (Climb pending) outcome.Waiting same = ap (client_pending base) same
  works_over task Nobody outcome.Fell works = tt
  works_over task session became works = absurd works

  goes_over : (start : PendingWorker) (session : Session) (became : JobOutcome) → PendingJobEffect start session became
      → PendingJobEffect (client_pending base start) (client_session base session) (client_outcome base (before start.worker) became)
  goes_over start (Ready ready) (outcome.Receipt receipt) (job, draft, works) = (job, draft, works_over (pending_worker_job start job) (Ready ready) (outcome.Receipt receipt) works)
  goes_over start (Climb pending) outcome.Waiting same = ap (client_pending base) same
  goes_over start Nobody outcome.Fell goes = tt
  goes_over start session became goes = absurd goes

  inside_over : (start : PendingWorker) (session : Session) (became : JobOutcome) → EnterPendingEffect start session became
      → EnterPendingEffect (client_pending base start) (client_session base session) (client_outcome base (before start.worker) became)
  inside_over start (Held pending) (outcome.Inside token) (same, is) = (ap (client_pending base) same, ap (λ (n : ℕ). before start.worker + n) is)
  inside_over start (Climb pending) outcome.Waiting same = ap (client_pending base) same
  inside_over start Nobody outcome.Fell goes = tt
  inside_over start session became goes = absurd goes

  resumes_over : (order_ : Order) (start session : Session) (became : JobOutcome) → ResumeOrderEffect start session became
      → ResumeOrderEffect (client_session base start) (client_session base session) (client_outcome base (numbers_for base start order_) became)
  resumes_over order_ (Climb pending) session became goes = goes_over pending session became goes
  resumes_over order_ (Held pending) session became goes = goes_over pending session became goes
  resumes_over order_ start session became goes = absurd goes

  commits_over : (order_ : Order) (start session : Session) (became : JobOutcome) → CommitOrderEffect start session became
      → CommitOrderEffect (client_session base start) (client_session base session) (client_outcome base (numbers_for base start order_) became)
  commits_over order_ (Held start) (Ready ready) (outcome.Receipt receipt) goes = goes_over start (Ready ready) (outcome.Receipt receipt) goes
  commits_over order_ (Held start) Nobody outcome.Fell goes = tt
  commits_over order_ start session became goes = absurd goes

  none_last : (past : WorkerBase) (number : ℕ) → 0 < number → client_last base past number None ≡ None
  none_last past zero some = absurd (omega (arith, some))
  none_last past (suc number) some = refl

  withdraws_over : (order_ : Order) (start session : Session) (number : ℕ) → HasNumber start → WithdrawOrderEffect start session number
      → WithdrawOrderEffect (client_session base start) (client_session base session) (numbers_for base start order_ + number)
  withdraws_over order_ (Climb pending) (Ready ready) number some (same, is) =
      let gone : client_ready base (withdrawn_worker pending) ≡ withdrawn_worker (client_pending base pending) =
      ap (λ (l : Option Receipt). record { worker = pending.worker; number = before pending.worker + pending.number; last = l }) (none_last (worker_base base pending.worker) pending.number some) in
      (ap (client_ready base) same ∙ gone, ap (λ (n : ℕ). before pending.worker + n) is)
  withdraws_over order_ start session number some withdraws = absurd withdraws

  pending_over : (start : Session) (told : PendingJob) → PendingOrderEffect start told → PendingOrderEffect (client_session base start) (client_pending_job (numbers_for base start order.Pending) told)
  pending_over (Climb pending) told (number, job, stance) = (ap (λ (n : ℕ). before pending.worker + n) number, job, stance)
  pending_over (Held pending) told (number, job, stance) = (ap (λ (n : ℕ). before pending.worker + n) number, job, stance)
  pending_over start told is = absurd is

  -- ---- a new job

  next_over : (ready : ReadyWorker) (job : Job) → task_over (next_worker_job ready job) ≡ next_worker_job (client_ready base ready) job
  next_over ready job =
      let same : before ready.worker + (ready.number + 1) ≡ before ready.worker + ready.number + 1 = omega arith in
      ap (λ (n : ℕ). record { worker = ready.worker; number = n; job = job }) same

  module _ (shape : Shape) (ready : ReadyWorker) (its : Submission) (new : (nat_lt 0 its.number && (its.number == before ready.worker + ready.number)) ≡ false)
      (none : None ≡ posting_refusal shape ready.number (submission_with_tries 1 (epoch_submission (before ready.worker) its))) where
    next : its.number ≡ before ready.worker + ready.number + 1
    next = is_next (before ready.worker) shape ready.number its new none

    fresh : (its.number - before ready.worker == ready.number) ≡ false
    fresh = ne_eqb (its.number - before ready.worker) ready.number (λ same. (let is = next in absurd (omega (arith, same, is))))

    fresh_over : (its.number == before ready.worker + ready.number) ≡ false
    fresh_over = ne_eqb its.number (before ready.worker + ready.number) (λ same. (let is = next in absurd (omega (arith, same, is))))

    hands_over : (session : Session) (became : JobOutcome) → ReadySubmitEffect (its.number - before ready.worker == ready.number) ready its.job session became
        → ReadySubmitEffect (its.number == before ready.worker + ready.number) (client_ready base ready) its.job (client_session base session) (client_outcome base (before ready.worker) became)
    hands_over session became hands =
        let H : Bool → Type 0 = λ again. ReadySubmitEffect again ready its.job session became in
        let works : JobEffect (next_worker_job ready its.job) session became = subst H fresh hands in
        let N : WorkerJob → Type 0 = λ task. JobEffect task (client_session base session) (client_outcome base (before ready.worker) became) in
        let G : Bool → Type 0 = λ again. ReadySubmitEffect again (client_ready base ready) its.job (client_session base session) (client_outcome base (before ready.worker) became) in
        subst G (sym fresh_over) (subst N (next_over ready its.job) (works_over (next_worker_job ready its.job) session became works))

    hands_inside_over : (session : Session) (became : JobOutcome) → ReadyEnterEffect (its.number - before ready.worker == ready.number) ready its.job session became
        → ReadyEnterEffect (its.number == before ready.worker + ready.number) (client_ready base ready) its.job (client_session base session) (client_outcome base (before ready.worker) became)
    hands_inside_over session became hands =
        let H : Bool → Type 0 = λ again. ReadyEnterEffect again ready its.job session became in
        let goes : EnterPendingEffect (waiting_worker (next_worker_job ready its.job)) session became = subst H fresh hands in
        let N : WorkerJob → Type 0 = λ task. EnterPendingEffect (waiting_worker task) (client_session base session) (client_outcome base (before ready.worker) became) in
        let G : Bool → Type 0 = λ again. ReadyEnterEffect again (client_ready base ready) its.job (client_session base session) (client_outcome base (before ready.worker) became) in
        subst G (sym fresh_over) (subst N (next_over ready its.job) (inside_over (waiting_worker (next_worker_job ready its.job)) session became goes))

  submits_over : (shape : Shape) (its : Submission) (order_ : Order) (start session : Session) (became : JobOutcome) → IsNew base shape start its
      → OrderRefusal shape start (with_tries 1 (epoch_order (numbers_for base start order_) (order.Submit its))) None
      → SubmitOrderEffect start (submission_with_tries 1 (epoch_submission (numbers_for base start order_) its)) session became
      → SubmitOrderEffect (client_session base start) (submission_with_tries 1 its) (client_session base session) (client_outcome base (numbers_for base start order_) became)
  submits_over shape its order_ Nobody session became new none submits = absurd submits
  submits_over shape its order_ (Ready ready) session became new none submits = hands_over shape ready its new none session became submits
  submits_over shape its order_ (Climb pending) session became new none submits = goes_over pending session became submits
  submits_over shape its order_ (Held pending) session became new none submits = goes_over pending session became submits

  enters_over : (made : ℕ) (shape : Shape) (its : Submission) (order_ : Order) (start session : Session) (became : JobOutcome) → IsNew base shape start its
      → OrderRefusal shape start (with_tries 1 (epoch_order (numbers_for base start order_) (order.Enter its))) None
      → EnterOrderEffect made start (submission_with_tries 1 (epoch_submission (numbers_for base start order_) its)) session became
      → EnterOrderEffect made (client_session base start) (submission_with_tries 1 its) (client_session base session) (client_outcome base (numbers_for base start order_) became)
  enters_over made shape its order_ Nobody session became new none enters = absurd enters
  enters_over made shape its order_ (Ready ready) session became new none enters = hands_inside_over shape ready its new none session became enters
  enters_over made shape its order_ (Climb pending) session became new none enters = inside_over pending session became enters
  enters_over made shape its order_ (Held pending) session became new none (no_step, same, is) =
      (no_step, ap (client_session base) same, inside_over pending (Held pending) became is)

  -- ---- an attached worker

  never_busy : (there : Bool) → None ≡ (if there then Some Busy else Some NoWorker) → ⊥
  never_busy true none = cc
  never_busy false none = cc

  nobody_of : (shape : Shape) (worker : ℕ) (start : Session) → None ≡ attach_refusal shape worker start → start ≡ Nobody
  nobody_of shape worker Nobody none = refl
  nobody_of shape worker (Ready ready) none = absurd (never_busy (nat_lt worker shape.workers) none)
  nobody_of shape worker (Climb pending) none = absurd (never_busy (nat_lt worker shape.workers) none)
  nobody_of shape worker (Held pending) none = absurd (never_busy (nat_lt worker shape.workers) none)

  attaches_over : (worker number : ℕ) (stance : SessionStance) (session : Session) → AttachOrderEffect worker session number stance → AttachOrderEffect worker (client_session base session) (before worker + number) stance
  attaches_over worker number standing.Ready (Ready ready) (by, is) = (by, ap (λ (w : ℕ). before w + ready.number) by ∙ ap (λ (n : ℕ). before worker + n) is)
  attaches_over worker number standing.Climb (Climb pending) (by, is) = (by, ap (λ (w : ℕ). before w + pending.number) by ∙ ap (λ (n : ℕ). before worker + n) is)
  attaches_over worker number standing.Held (Held pending) (by, is) = (by, ap (λ (w : ℕ). before w + pending.number) by ∙ ap (λ (n : ℕ). before worker + n) is)
  attaches_over worker number stance session attaches = absurd attaches

  -- ---- what is left of a plan, and the tries

  left_over : (made numbers : ℕ) (old now : SessionView) (became : JobOutcome) → PlanAfterOrder made old now became → PlanAfterOrder made (client_view base old) (client_view base now) (client_outcome base numbers became)
  left_over made numbers old now (outcome.Receipt receipt) left = left
  left_over made numbers old now outcome.Withdrawn left = left
  left_over made numbers old now outcome.Waiting left = left
  left_over made numbers old now (outcome.Inside token) left = left
  left_over made numbers old now outcome.Fell (due, same) = (due, ap (client_view base) same)

  tried_over : (made tries numbers : ℕ) (became : JobOutcome) → WaitsAfterTries tries made became → WaitsAfterTries tries made (client_outcome base numbers became)
  tried_over made tries numbers (outcome.Receipt receipt) is = tt
  tried_over made tries numbers outcome.Withdrawn is = tt
  tried_over made tries numbers outcome.Waiting is = is
  tried_over made tries numbers (outcome.Inside token) is = tt
  tried_over made tries numbers outcome.Fell is = tt

  -- ---- any order

  module _ (shape : Shape) (made : ℕ) (old now : SessionView) where
    abbrev numbers : Order → ℕ
    numbers its = numbers_for base old.session its

    abbrev IsDone : Order → SessionReply → Type 0
    IsDone its answer = OrderEffect made (client_view base old) (with_tries 1 its) (client_view base now) (client_reply base (numbers its) answer)

    attach_does : (asked : Attachment) (number : ℕ) (stance : SessionStance) → None ≡ attach_refusal shape asked.worker old.session → AttachOrderEffect asked.worker now.session number stance × (now.planned ≡ Nothing)
        → IsDone (order.Attach asked) (reply.Attached number stance)
    attach_does asked number stance none (attaches, plan) =
        let alone : numbers (order.Attach asked) ≡ before asked.worker = ap (λ (s : Session). numbers_for base s (order.Attach asked)) (nobody_of shape asked.worker old.session none) in
        let A : ℕ → Type 0 = λ n. AttachOrderEffect asked.worker (client_session base now.session) (n + number) stance in
        (subst A (sym alone) (attaches_over asked.worker number stance now.session attaches), plan)

    does_over : (its : Order) (answer : SessionReply) → HasNumber old.session → AsksMore base shape old.session its → OrderRefusal shape old.session (with_tries 1 (epoch_order (numbers its) its)) None
        → OrderEffect made old (with_tries 1 (epoch_order (numbers its) its)) now answer → IsDone its answer
    does_over (order.Attach asked) (reply.Attached number stance) some new none does = attach_does asked number stance none does
    does_over (order.Submit its) (reply.Submitted became) some new none (submits, left, tries) =
        (submits_over shape its (order.Submit its) old.session now.session became new none submits, left_over made (numbers (order.Submit its)) old now became left, tried_over made 1 (numbers (order.Submit its)) became tries)
    does_over (order.Resume patience) (reply.Resumed became) some new none (resumes, left, tries) =
        (resumes_over (order.Resume patience) old.session now.session became resumes, left_over made (numbers (order.Resume patience)) old now became left, tried_over made 1 (numbers (order.Resume patience)) became tries)
    does_over (order.Enter its) (reply.Entered became) some new none (enters, left, tries) =
        (enters_over made shape its (order.Enter its) old.session now.session became new none enters, left_over made (numbers (order.Enter its)) old now became left, tried_over made 1 (numbers (order.Enter its)) became tries)
    does_over order.Commit (reply.Committed became) some new none (commits, left) =
        (commits_over order.Commit old.session now.session became commits, left_over made (numbers order.Commit) old now became left)
    does_over order.Withdraw (reply.Withdrew number) some new none (withdraws, left) = (withdraws_over order.Withdraw old.session now.session number some withdraws, left)
    does_over order.Withdraw reply.WithdrawFell some new none (due, same) = (due, ap (client_view base) same)
    does_over order.Last (reply.Last receipt) some new none (lasts, same) = absurd (never old.session new lasts)
      where
        never : (session : Session) → AsksMore base shape session order.Last → LastOrderEffect session receipt → ⊥
        never Nobody new lasts = lasts
        never (Ready ready) new lasts = new
        never (Climb pending) new lasts = lasts
        never (Held pending) new lasts = lasts
    does_over (order.CrashAfter steps) reply.CrashPlanned some new none same = ap (client_view base) same
    does_over order.Detach reply.Detached some new none same = ap (client_view base) same
    does_over order.Ping reply.Pong some new none same = ap (client_view base) same
    does_over order.Pending (reply.Pending told) some new none (is, same) = (pending_over old.session told is, ap (client_view base) same)
    does_over its answer some new none does = absurd does

    pub obeys_over : (its : Order) (answer : SessionReply) → HasNumber old.session → AsksMore base shape old.session its → SessionStepInSteps shape made old (with_tries 1 (epoch_order (numbers its) its)) now answer
        → SessionStepWithin (client_sizes (numbers its) shape) made (client_view base old) (with_tries 1 its) (client_view base now) (client_reply base (numbers its) answer)
    obeys_over its (reply.Refused why) some new (same, inl refuses) = (ap (client_view base) same, inl (refuses_over base shape old.session its (Some why) some new refuses))
    obeys_over its (reply.Refused why) some new (same, inr misses) = (ap (client_view base) same, inr (misses_over base shape old.session its why misses))
    obeys_over its (reply.Attached number stance) some new (none, does) = (refuses_over base shape old.session its None some new none, does_over its (reply.Attached number stance) some new none does)
    obeys_over its (reply.Submitted became) some new (none, does) = (refuses_over base shape old.session its None some new none, does_over its (reply.Submitted became) some new none does)
    obeys_over its (reply.Resumed became) some new (none, does) = (refuses_over base shape old.session its None some new none, does_over its (reply.Resumed became) some new none does)
    obeys_over its (reply.Entered became) some new (none, does) = (refuses_over base shape old.session its None some new none, does_over its (reply.Entered became) some new none does)
    obeys_over its (reply.Committed became) some new (none, does) = (refuses_over base shape old.session its None some new none, does_over its (reply.Committed became) some new none does)
    obeys_over its (reply.Withdrew number) some new (none, does) = (refuses_over base shape old.session its None some new none, does_over its (reply.Withdrew number) some new none does)
    obeys_over its reply.WithdrawFell some new (none, does) = (refuses_over base shape old.session its None some new none, does_over its reply.WithdrawFell some new none does)
    obeys_over its (reply.Last receipt) some new (none, does) = (refuses_over base shape old.session its None some new none, does_over its (reply.Last receipt) some new none does)
    obeys_over its reply.CrashPlanned some new (none, does) = (refuses_over base shape old.session its None some new none, does_over its reply.CrashPlanned some new none does)
    obeys_over its reply.Detached some new (none, does) = (refuses_over base shape old.session its None some new none, does_over its reply.Detached some new none does)
    obeys_over its reply.Pong some new (none, does) = (refuses_over base shape old.session its None some new none, does_over its reply.Pong some new none does)
    obeys_over its (reply.Pending told) some new (none, does) = (refuses_over base shape old.session its None some new none, does_over its (reply.Pending told) some new none does)

-- ---- replies that need no event

told_left : (view : SessionView) (last : Option Receipt) → PlanAfterOrder 0 view view (last_outcome last)
told_left view (Some receipt) = leaves_none view.planned
told_left view None = leaves_none view.planned

told_tried : (tries : ℕ) (last : Option Receipt) → WaitsAfterTries tries 0 (last_outcome last)
told_tried tries (Some receipt) = tt
told_tried tries None = tt

module _ (sizes : ServiceSizes) (planned : PlannedCrash) (ready : ReadyWorker) where
  abbrev seen : SessionView
  seen = record { session = Ready ready; planned = planned }

  module _ (its : Submission) (again : is_repeat_submission ready its ≡ true) where
    parts : (nat_lt 0 its.number ≡ true) × ((its.number == ready.number) ≡ true)
    parts = and_parts (nat_lt 0 its.number) (its.number == ready.number) again

    repeats_may : None ≡ posting_refusal_within sizes ready.number (submission_with_tries 1 its)
    repeats_may = sym (last_repeated_within sizes ready.number (submission_with_tries 1 its) (ltb-true 0 its.number parts.0) (eqb-true its.number ready.number parts.1))

    submits_again : SubmitOrderEffect (Ready ready) (submission_with_tries 1 its) (Ready ready) (last_outcome ready.last)
    submits_again = rw parts.1 (refl, refl)

    enters_again : EnterOrderEffect 0 (Ready ready) (submission_with_tries 1 its) (Ready ready) (last_outcome ready.last)
    enters_again = rw parts.1 (refl, refl)

  abbrev pub IsTold : Order → SessionReply → Type 0
  IsTold its answer = SessionStepWithin sizes 0 seen (with_tries 1 its) seen answer

  submit_told : (its : Submission) → is_repeat_submission ready its ≡ true → IsTold (order.Submit its) (reply.Submitted (last_outcome ready.last))
  submit_told its again = (repeats_may its again, (submits_again its again, told_left seen ready.last, told_tried 1 ready.last))

  enter_told : (its : Submission) → is_repeat_submission ready its ≡ true → IsTold (order.Enter its) (reply.Entered (last_outcome ready.last))
  enter_told its again = (repeats_may its again, (enters_again its again, told_left seen ready.last, told_tried 1 ready.last))

  told_if : (its : Order) (given answer : SessionReply) (again : Bool) → (again ≡ true → IsTold its given) → (if again then Some given else None) ≡ Some answer → IsTold its answer
  told_if its given answer true may is = subst (IsTold its) (same_Some given answer is) (may refl)
  told_if its given answer false may is = absurd (none-some answer is)

  pub told_obeys : (its : Order) (answer : SessionReply) → immediate_reply (Ready ready) its ≡ Some answer → IsTold its answer
  told_obeys order.Last answer is = subst (IsTold order.Last) (same_Some (reply.Last ready.last) answer is) (refl, (refl, refl))
  told_obeys (order.Submit its) answer is = told_if (order.Submit its) (reply.Submitted (last_outcome ready.last)) answer (is_repeat_submission ready its) (submit_told its) is
  told_obeys (order.Enter its) answer is = told_if (order.Enter its) (reply.Entered (last_outcome ready.last)) answer (is_repeat_submission ready its) (enter_told its) is
  told_obeys its answer is = absurd (none-some answer is)

if_none : {A : Type 0} (again : Bool) (given : A) → (if again then Some given else None) ≡ None → again ≡ false
if_none true given is = absurd (none-some given (sym is))
if_none false given is = refl

-- An order without an immediate reply asks for more.
pub asks_more : (base : Base) (shape : Shape) (session : Session) (its : Order) → immediate_reply (client_session base session) its ≡ None → AsksMore base shape session its
asks_more base shape (Ready ready) (order.Submit its) is = if_none (is_repeat_submission (client_ready base ready) its) (reply.Submitted (last_outcome (client_ready base ready).last)) is
asks_more base shape (Ready ready) (order.Enter its) is = if_none (is_repeat_submission (client_ready base ready) its) (reply.Entered (last_outcome (client_ready base ready).last)) is
asks_more base shape (Ready ready) order.Last is = none-some (reply.Last (client_ready base ready).last) (sym is)
asks_more base shape (Ready ready) (order.Attach asked) is = tt
asks_more base shape (Ready ready) (order.Resume patience) is = tt
asks_more base shape (Ready ready) order.Commit is = tt
asks_more base shape (Ready ready) order.Withdraw is = tt
asks_more base shape (Ready ready) (order.CrashAfter steps) is = tt
asks_more base shape (Ready ready) order.Detach is = tt
asks_more base shape (Ready ready) order.Ping is = tt
asks_more base shape (Ready ready) order.Pending is = tt
asks_more base shape Nobody (order.Attach asked) is = tt
asks_more base shape Nobody (order.Submit its) is = tt
asks_more base shape Nobody (order.Resume patience) is = tt
asks_more base shape Nobody (order.Enter its) is = tt
asks_more base shape Nobody order.Commit is = tt
asks_more base shape Nobody order.Withdraw is = tt
asks_more base shape Nobody order.Last is = tt
asks_more base shape Nobody (order.CrashAfter steps) is = tt
asks_more base shape Nobody order.Detach is = tt
asks_more base shape Nobody order.Ping is = tt
asks_more base shape Nobody order.Pending is = tt
asks_more base shape (Climb pending) (order.Attach asked) is = tt
asks_more base shape (Climb pending) (order.Submit its) is = tt
asks_more base shape (Climb pending) (order.Resume patience) is = tt
asks_more base shape (Climb pending) (order.Enter its) is = tt
asks_more base shape (Climb pending) order.Commit is = tt
asks_more base shape (Climb pending) order.Withdraw is = tt
asks_more base shape (Climb pending) order.Last is = tt
asks_more base shape (Climb pending) (order.CrashAfter steps) is = tt
asks_more base shape (Climb pending) order.Detach is = tt
asks_more base shape (Climb pending) order.Ping is = tt
asks_more base shape (Climb pending) order.Pending is = tt
asks_more base shape (Held pending) (order.Attach asked) is = tt
asks_more base shape (Held pending) (order.Submit its) is = tt
asks_more base shape (Held pending) (order.Resume patience) is = tt
asks_more base shape (Held pending) (order.Enter its) is = tt
asks_more base shape (Held pending) order.Commit is = tt
asks_more base shape (Held pending) order.Withdraw is = tt
asks_more base shape (Held pending) order.Last is = tt
asks_more base shape (Held pending) (order.CrashAfter steps) is = tt
asks_more base shape (Held pending) order.Detach is = tt
asks_more base shape (Held pending) order.Ping is = tt
asks_more base shape (Held pending) order.Pending is = tt
