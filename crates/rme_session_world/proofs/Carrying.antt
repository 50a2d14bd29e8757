-- Orders that were applied.
use Rattle.std.proofs.Common.{◌≡◌, ◌≢◌, ℕ, ◌++◌, refl, sym, subst}
use Rattle.std.specs.Prelude.{Bool, true, false, Option, Some, None, IfSome}
use Rattle.std.proofs.lemmas.Option.{none-some}
use Rattle.rme_words.specs.declared.refusal.Refusal.{Refusal}
use Rattle.rme_words.specs.declared.refusal.Refusal.TheVariants.{Differs, Taken}
use Rattle.rme_script.specs.declared.job.Job.{Job}
use Rattle.rme_session_protocol.specs.declared.order.Submission.{Submission}
use Rattle.rme_words.specs.declared.shape.Shape.{Shape}
use Rattle.rme_program.specs.declared.kinds.Phase.TheVariants as phase
use Rattle.rme_session_protocol.specs.SessionSteps.{SessionStep, TellsPlace, TellsSection}
use Rattle.rme_session_protocol.specs.Attempts.{is_still_waiting, submission_with_tries, with_tries}
use Rattle.rme_session_protocol.specs.Refusals.{PendingJobRefusal, OrderRefusal, SubmitRefusal}
use Rattle.rme_session_protocol.specs.declared.planned_crash.PlannedCrash.{PlannedCrash}
use Rattle.rme_session_protocol.specs.declared.view.Session.{Session}
use Rattle.rme_session_protocol.specs.declared.view.Session.TheVariants.{Nobody, Ready, Climb, Held}
use Rattle.rme_session_protocol.specs.declared.order.Order.{Order}
use Rattle.rme_session_protocol.specs.declared.order.Order.TheVariants.{Attach, Submit, Resume, Enter, Commit, Withdraw, Last, CrashAfter, Detach, Ping, Pending}
use Rattle.rme_session_protocol.specs.declared.reply.JobOutcome.{JobOutcome}
use Rattle.rme_session_protocol.specs.declared.reply.JobOutcome.TheVariants as outcome
use Rattle.rme_session_protocol.specs.declared.reply.SessionReply.{SessionReply}
use Rattle.rme_session_protocol.specs.declared.reply.SessionReply.TheVariants as reply
use Rattle.rme_world.specs.WorldViews.{WorldView}
use Rattle.rme_session_world.specs.declared.event_batch.BatchStart.{BatchStart}
use Rattle.rme_session_world.specs.declared.running.RunGoal.{RunGoal}
use Rattle.rme_session_world.specs.declared.work.WorkedJob.{WorkedJob}
use Rattle.rme_session_world.specs.AppliedOrders.{AppliesOrder, IsOrderWorker, worker_view}
use Rattle.rme_session_world.specs.Downs.{IsWorkerDown}
use Rattle.rme_session_world.specs.FencingTokens.{HasFinished}
use Rattle.rme_session_world.specs.EventBatches.{AppliesEvents, start_events, crash_events, step_events}
use Rattle.rme_session_world.specs.Replies.{worked_order, worker_after_run}
use Rattle.rme_session_world.specs.WorkerSessions.{IsAtRest}
use Rattle.rme_session_world.specs.WorkerRuns.{is_goal_reached}
use Rattle.rme_session_world.specs.JobRuns.{JobContinuation}
use Rattle.rme_session_world.proofs.Events.{happens_then, work_happens}
use Rattle.rme_session_world.proofs.Frames.{Leaves, leaves_then, work_falls, work_leaves, work_rests, work_waits}
use Rattle.rme_session_world.proofs.Tokens.{no_token, work_token}
use Rattle.rme_session_world.proofs.Working.{seen_after}

pending_tried : (number : ℕ) (draft : Option Job) (its : Submission) (why : Option Refusal) → PendingJobRefusal number draft its why → PendingJobRefusal number draft (submission_with_tries 1 its) why
pending_tried number draft its None refuses = refuses
pending_tried number draft its (Some Differs) refuses = refuses
pending_tried number draft its (Some why) refuses = refuses

submit_tried : (shape : Shape) (session : Session) (its : Submission) (why : Option Refusal) → SubmitRefusal shape session its why → SubmitRefusal shape session (submission_with_tries 1 its) why
submit_tried shape Nobody its why refuses = refuses
submit_tried shape (Ready ready) its why refuses = refuses
submit_tried shape (Climb pending) its why refuses = pending_tried pending.number pending.draft its why refuses
submit_tried shape (Held pending) its why refuses = pending_tried pending.number pending.draft its why refuses

-- The patience of an order does not affect its refusal.
pub tried_too : (shape : Shape) (session : Session) (its : Order) (why : Option Refusal) → OrderRefusal shape session its why → OrderRefusal shape session (with_tries 1 its) why
tried_too shape session (Attach asked) why refuses = refuses
tried_too shape session (Submit its) why refuses = submit_tried shape session its why refuses
tried_too shape session (Resume patience) why refuses = refuses
tried_too shape session (Enter its) why refuses = submit_tried shape session its why refuses
tried_too shape session Commit why refuses = refuses
tried_too shape session Withdraw why refuses = refuses
tried_too shape session Last why refuses = refuses
tried_too shape session (CrashAfter steps) why refuses = refuses
tried_too shape session Detach why refuses = refuses
tried_too shape session Ping why refuses = refuses
tried_too shape session Pending why refuses = refuses

rests_after : (falls : Bool) (worker : ℕ) (new : WorldView) (its : Order) → (falls ≡ false → IsAtRest new worker) → IfSome (worker_after_run falls worker) (λ w. IsOrderWorker (Some worker) its w × IsAtRest new w)
rests_after true worker new its rests = tt
rests_after false worker new its rests = (refl, rests refl)

gone_after : (falls : Bool) (worker : ℕ) (new : WorldView) → (falls ≡ true → IsWorkerDown new worker) → worker_after_run falls worker ≡ None → IsWorkerDown new worker
gone_after true worker new down none = down refl
gone_after false worker new down none = absurd (none-some worker (sym none))

-- An answer is no refusal, and if it has the outcome of the job, that outcome is true.
abbrev pub Tells : SessionReply → JobOutcome → Type 0
Tells (reply.Submitted told) became = told ≡ became
Tells (reply.Resumed told) became = told ≡ became
Tells (reply.Entered told) became = told ≡ became
Tells (reply.Refused why) became = ⊥
Tells answer became = Unit {0}

tells_untaken : (answer : SessionReply) (became : JobOutcome) → Tells answer became → answer ≢ reply.Refused Taken
tells_untaken (reply.Refused why) became tells is = tells
tells_untaken answer became tells is = cc

tells_waits : (answer : SessionReply) (became : JobOutcome) → Tells answer became → is_still_waiting answer ≡ true → became ≡ outcome.Waiting
tells_waits (reply.Submitted outcome.Waiting) became tells waits = sym tells
tells_waits (reply.Resumed outcome.Waiting) became tells waits = sym tells
tells_waits (reply.Entered outcome.Waiting) became tells waits = sym tells
tells_waits answer became tells waits = absurd (cc)

tells_token : (goal : RunGoal) (worker : ℕ) (planned : PlannedCrash) (old new : WorldView) (worked : WorkedJob) → JobContinuation goal worker planned old worked new → (answer : SessionReply) → Tells answer worked.outcome
    → TellsSection (HasFinished new) (seen_after new worker worked).session answer
tells_token goal worker planned old new worked went (reply.Entered told) tells =
    subst (λ (o : JobOutcome). TellsSection (HasFinished new) (seen_after new worker worked).session (reply.Entered o)) (sym tells) (work_token goal worker planned old new worked went)
tells_token goal worker planned old new worked went answer tells = no_token new (seen_after new worker worked).session answer refl

-- An order with which a worker worked, after the batch's first event.
pub done_carries : (goal : RunGoal) (old start new : WorldView) (worker : ℕ) (planned before : PlannedCrash) (its : Order) (begins : BatchStart) (worked : WorkedJob) (answer : SessionReply)
    → is_goal_reached goal phase.Enter ≡ false → Tells answer worked.outcome → TellsPlace (HasFinished old) answer → AppliesEvents old (start_events worker begins) start → Leaves worker old start → JobContinuation goal worker planned start worked new
    → SessionStep old.shape (worker_view old (Some worker) before) (with_tries 1 its) (worker_view new (worker_after_run worked.falls worker) worked.left) answer
    → AppliesOrder old (Some worker) before its (worked_order worker begins worked answer) new
done_carries goal old start new worker planned before its begins worked answer further tells place began leaves went obeys =
    let all : Leaves worker old new = leaves_then worker old start new leaves (work_leaves goal worker planned start new worked went) in
    record {
      obeys = obeys;
      happened = happens_then (start_events worker begins) (step_events worker worked.steps ++ crash_events worker worked.falls) old start new began (work_happens goal worker planned start new worked went);
      shape = all.shape;
      own = refl;
      rests = rests_after worked.falls worker new its (work_rests goal worker planned start new worked went);
      gone = λ none. gone_after worked.falls worker new (work_falls goal worker planned start new worked went) none;
      others = all.others;
      long = all.long;
      alone = λ none other. absurd (none-some worker (sym none));
      seats = refl;
      kept = λ none. cc;
      untaken = tells_untaken answer worked.outcome tells;
      waits = λ still. work_waits goal worker planned start new worked further went (tells_waits answer worked.outcome tells still);
      section = tells_token goal worker planned start new worked went answer tells;
      place = place;
    }
