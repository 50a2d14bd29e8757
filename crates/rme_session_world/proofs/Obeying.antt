-- The work of a worker, as the effect of its order.
use Rattle.std.proofs.Common.{◌≡◌, ◌≢◌, ℕ, refl, sym, ◌∙◌, ap, subst}
use Rattle.std.specs.Prelude.{Option, Some, None}
use Rattle.std.proofs.lemmas.Bool.{eq-eqb, ne_eqb}
use Rattle.rme_words.specs.declared.shape.Shape.{Shape}
use Rattle.rme_script.specs.declared.job.Job.{Job}
use Rattle.rme_program.specs.declared.note.Receipt.{Receipt}
use Rattle.rme_session_protocol.specs.SessionSteps.{CommitOrderEffect, EnterPendingEffect, PendingJobEffect, PlanAfterOrder, WaitsAfterTries, SessionStep, JobEffect, last_outcome}
use Rattle.rme_session_protocol.specs.Attempts.{with_tries}
use Rattle.rme_session_protocol.specs.Refusals.{PendingJobRefusal, posting_refusal}
use Rattle.rme_session_protocol.proofs.Counting.{leaves_none}
use Rattle.rme_session_protocol.specs.SessionViews.{pending_worker_job, next_worker_job, waiting_worker}
use Rattle.rme_session_protocol.specs.declared.planned_crash.PlannedCrash.{PlannedCrash}
use Rattle.rme_session_protocol.specs.declared.view.PendingWorker.{PendingWorker}
use Rattle.rme_session_protocol.specs.declared.view.ReadyWorker.{ReadyWorker}
use Rattle.rme_session_protocol.specs.declared.view.Session.{Session}
use Rattle.rme_session_protocol.specs.declared.view.Session.TheVariants.{Nobody, Ready, Climb, Held}
use Rattle.rme_session_protocol.specs.declared.view.SessionView.{SessionView}
use Rattle.rme_session_protocol.specs.declared.order.Order.TheVariants as order
use Rattle.rme_session_protocol.specs.declared.order.Patience.{Patience}
use Rattle.rme_session_protocol.specs.declared.order.Submission.{Submission}
use Rattle.rme_session_protocol.specs.declared.reply.JobOutcome.{JobOutcome}
use Rattle.rme_session_protocol.specs.declared.reply.JobOutcome.TheVariants as outcome
use Rattle.rme_session_protocol.specs.declared.reply.SessionReply.TheVariants as reply

-- The worker's job in the view is its task.
same_pending : (pending : PendingWorker) (job : Job) → pending.draft ≡ Some job → waiting_worker (pending_worker_job pending job) ≡ pending
same_pending pending job draft = ap (λ (d : Option Job). record { worker = pending.worker; number = pending.number; draft = d }) (sym draft)

goes_on : (pending : PendingWorker) (job : Job) → pending.draft ≡ Some job → (session : Session) (became : JobOutcome) → JobEffect (pending_worker_job pending job) session became → PendingJobEffect pending session became
goes_on pending job draft (Ready ready) (outcome.Receipt receipt) works = (job, draft, works)
goes_on pending job draft (Climb now) outcome.Waiting works = works ∙ same_pending pending job draft
goes_on pending job draft Nobody outcome.Fell works = tt
goes_on pending job draft Nobody (outcome.Receipt receipt) works = absurd works
goes_on pending job draft Nobody outcome.Withdrawn works = absurd works
goes_on pending job draft Nobody outcome.Waiting works = absurd works
goes_on pending job draft Nobody (outcome.Inside token) works = absurd works
goes_on pending job draft (Ready ready) outcome.Withdrawn works = absurd works
goes_on pending job draft (Ready ready) outcome.Waiting works = absurd works
goes_on pending job draft (Ready ready) outcome.Fell works = absurd works
goes_on pending job draft (Ready ready) (outcome.Inside token) works = absurd works
goes_on pending job draft (Climb now) (outcome.Receipt receipt) works = absurd works
goes_on pending job draft (Climb now) outcome.Withdrawn works = absurd works
goes_on pending job draft (Climb now) outcome.Fell works = absurd works
goes_on pending job draft (Climb now) (outcome.Inside token) works = absurd works
goes_on pending job draft (Held now) became works = absurd works

goes_inside : (pending : PendingWorker) (job : Job) (session : Session) (became : JobOutcome) → pending.draft ≡ Some job → EnterPendingEffect (waiting_worker (pending_worker_job pending job)) session became → EnterPendingEffect pending session became
goes_inside pending job session became draft goes = subst (λ (p : PendingWorker). EnterPendingEffect p session became) (same_pending pending job draft) goes

module _ (shape : Shape) (planned : PlannedCrash) (now : SessionView) (became : JobOutcome) (asked : ℕ) (tried_once : WaitsAfterTries 1 asked became) where
  abbrev with : Session → SessionView
  with session = record { session = session; planned = planned }

  -- A submitted job.
  pub hand_obeys : (ready : ReadyWorker) (its : Submission) → posting_refusal shape ready.number its ≡ None → its.number ≢ ready.number
      → JobEffect (next_worker_job ready its.job) now.session became → PlanAfterOrder asked (with (Ready ready)) now became → SessionStep shape (with (Ready ready)) (with_tries 1 (order.Submit its)) now (reply.Submitted became)
  hand_obeys ready its may apart did left = (asked, (sym may, (rw (ne_eqb its.number ready.number apart) did, left, tried_once)))

  pub hand_inside_obeys : (ready : ReadyWorker) (its : Submission) → posting_refusal shape ready.number its ≡ None → its.number ≢ ready.number
      → EnterPendingEffect (waiting_worker (next_worker_job ready its.job)) now.session became → PlanAfterOrder asked (with (Ready ready)) now became
      → SessionStep shape (with (Ready ready)) (with_tries 1 (order.Enter its)) now (reply.Entered became)
  hand_inside_obeys ready its may apart did left = (asked, (sym may, (rw (ne_eqb its.number ready.number apart) did, left, tried_once)))

  module _ (pending : PendingWorker) (job : Job) (draft : pending.draft ≡ Some job) where
    -- A continued job, from waiting and from inside.
    pub climb_obeys : (its : Submission) → PendingJobRefusal pending.number pending.draft its None → JobEffect (pending_worker_job pending job) now.session became → PlanAfterOrder asked (with (Climb pending)) now became
        → SessionStep shape (with (Climb pending)) (with_tries 1 (order.Submit its)) now (reply.Submitted became)
    climb_obeys its may did left = (asked, (may, (goes_on pending job draft now.session became did, left, tried_once)))

    pub climb_inside_obeys : (its : Submission) → PendingJobRefusal pending.number pending.draft its None → EnterPendingEffect (waiting_worker (pending_worker_job pending job)) now.session became
        → PlanAfterOrder asked (with (Climb pending)) now became → SessionStep shape (with (Climb pending)) (with_tries 1 (order.Enter its)) now (reply.Entered became)
    climb_inside_obeys its may did left = (asked, (may, (goes_inside pending job now.session became draft did, left, tried_once)))

    pub held_obeys : (its : Submission) → PendingJobRefusal pending.number pending.draft its None → JobEffect (pending_worker_job pending job) now.session became → PlanAfterOrder asked (with (Held pending)) now became
        → SessionStep shape (with (Held pending)) (with_tries 1 (order.Submit its)) now (reply.Submitted became)
    held_obeys its may did left = (asked, (may, (goes_on pending job draft now.session became did, left, tried_once)))

    pub climb_resumes : (patience : Patience) → JobEffect (pending_worker_job pending job) now.session became → PlanAfterOrder asked (with (Climb pending)) now became
        → SessionStep shape (with (Climb pending)) (with_tries 1 (order.Resume patience)) now (reply.Resumed became)
    climb_resumes patience did left = (asked, (refl, (goes_on pending job draft now.session became did, left, tried_once)))

    pub held_resumes : (patience : Patience) → JobEffect (pending_worker_job pending job) now.session became → PlanAfterOrder asked (with (Held pending)) now became
        → SessionStep shape (with (Held pending)) (with_tries 1 (order.Resume patience)) now (reply.Resumed became)
    held_resumes patience did left = (asked, (refl, (goes_on pending job draft now.session became did, left, tried_once)))

  pub commit_obeys : (pending : PendingWorker) → CommitOrderEffect (Held pending) now.session became → PlanAfterOrder asked (with (Held pending)) now became
      → SessionStep shape (with (Held pending)) (with_tries 1 order.Commit) now (reply.Committed became)
  commit_obeys pending did left = (asked, (refl, (did, left)))

-- The last number is answered again.
pub repeat_obeys : (shape : Shape) (planned : PlannedCrash) (ready : ReadyWorker) (its : Submission) → posting_refusal shape ready.number its ≡ None → its.number ≡ ready.number
    → SessionStep shape record { session = Ready ready; planned = planned } (with_tries 1 (order.Submit its)) record { session = Ready ready; planned = planned } (reply.Submitted (last_outcome ready.last))
repeat_obeys shape planned ready its may same = (0, (sym may, (rw (eq-eqb its.number ready.number same) (refl, refl), kept_plan planned ready, kept_try ready.last)))
  where
    kept_plan : (plan : PlannedCrash) (r : ReadyWorker) → PlanAfterOrder 0 record { session = Ready r; planned = plan } record { session = Ready r; planned = plan } (last_outcome r.last)
    kept_plan plan r = by_last r.last
      where
        by_last : (last : Option Receipt) → PlanAfterOrder 0 record { session = Ready r; planned = plan } record { session = Ready r; planned = plan } (last_outcome last)
        by_last None = leaves_none plan
        by_last (Some receipt) = leaves_none plan

    kept_try : (last : Option Receipt) → WaitsAfterTries 1 0 (last_outcome last)
    kept_try None = tt
    kept_try (Some receipt) = tt

pub repeat_inside_obeys : (shape : Shape) (planned : PlannedCrash) (ready : ReadyWorker) (its : Submission) → posting_refusal shape ready.number its ≡ None → its.number ≡ ready.number
    → SessionStep shape record { session = Ready ready; planned = planned } (with_tries 1 (order.Enter its)) record { session = Ready ready; planned = planned } (reply.Entered (last_outcome ready.last))
repeat_inside_obeys shape planned ready its may same = (0, (sym may, (rw (eq-eqb its.number ready.number same) (refl, refl), kept_plan ready.last, kept_try ready.last)))
  where
    kept_plan : (last : Option Receipt) → PlanAfterOrder 0 record { session = Ready ready; planned = planned } record { session = Ready ready; planned = planned } (last_outcome last)
    kept_plan None = leaves_none planned
    kept_plan (Some receipt) = leaves_none planned

    kept_try : (last : Option Receipt) → WaitsAfterTries 1 0 (last_outcome last)
    kept_try None = tt
    kept_try (Some receipt) = tt
