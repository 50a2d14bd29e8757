-- Orders that are not refused, and refused ones.
use Rattle.std.proofs.Common.{◌≡◌, ◌≢◌, ℕ, ◌+◌, refl, sym, ◌∙◌, subst, inl, inr}
use Rattle.std.specs.Prelude.{Bool, true, false, Option, Some, None, Ok, Err, nat_lt, ◌==◌, if◌then◌else◌}
use Rattle.std.specs.List.{list_all}
use Rattle.std.proofs.lemmas.Bool.{cases_Bool, ne_eqb}
use Rattle.std.proofs.lemmas.Option.{none-some}
use Rattle.rme_words.specs.declared.refusal.Refusal.{Refusal}
use Rattle.rme_words.specs.declared.refusal.Refusal.TheVariants.{BadScript, NoCell, NoLock, NoWorker, Taken, TooManyJobs, WrongNumber}
use Rattle.rme_words.specs.declared.shape.Shape.{Shape}
use Rattle.rme_script.specs.declared.job.Job.{Job}
use Rattle.rme_script.specs.Scripts.{script_check, op_is_within}
use Rattle.rme_program.specs.Phases.{phase_of}
use Rattle.rme_program.specs.declared.kinds.Phase.TheVariants as phase
use Rattle.rme_program.specs.declared.stage.Stage.{Stage}
use Rattle.rme_program.specs.declared.stage.Stage.TheVariants.{Resting, Recovering, Posting, Climbing, Logging, Copying, Leaving}
use Rattle.rme_script.specs.JobRefusals.{job_refusal, refusal_or_next}
use Rattle.rme_session_protocol.specs.Refusals as orders
use Rattle.rme_session_protocol.specs.declared.planned_crash.PlannedCrash.{PlannedCrash}
use Rattle.rme_session_protocol.specs.declared.view.PendingWorker.{PendingWorker}
use Rattle.rme_session_protocol.specs.declared.view.ReadyWorker.{ReadyWorker}
use Rattle.rme_session_protocol.specs.declared.view.Session.{Session}
use Rattle.rme_session_protocol.specs.declared.view.Session.TheVariants.{Nobody, Ready, Climb, Held}
use Rattle.rme_session_protocol.specs.declared.order.Order.{Order}
use Rattle.rme_session_protocol.specs.declared.order.Order.TheVariants as order
use Rattle.rme_session_protocol.specs.declared.order.Patience.{Patience}
use Rattle.rme_session_protocol.specs.declared.order.Submission.{Submission}
use Rattle.rme_session_protocol.specs.declared.reply.SessionReply.TheVariants as reply
use Rattle.rme_world.specs.Refusals.{is_climbing_stage, is_resting_stage, submit_refusal, withdraw_refusal}
use Rattle.rme_world.specs.WorldViews.{WorldView}
use Rattle.rme_world.specs.WorldInvariants.{WorldInvariant}
use Rattle.rme_session_world.specs.declared.event_batch.BatchStart.TheVariants.{GoOn}
use Rattle.rme_session_world.specs.declared.running.RunGoal.TheVariants as goals
use Rattle.rme_session_world.specs.declared.work.WorkedJob.{WorkedJob}
use Rattle.rme_session_world.specs.AppliedOrders.{AppliesOrder}
use Rattle.rme_session_world.specs.Replies.{worked_order, order_for, refused_order}
use Rattle.rme_session_world.specs.declared.orders.SubmitAim.{SubmitAim}
use Rattle.rme_session_world.specs.declared.orders.SubmitAim.TheVariants as aims
use Rattle.rme_session_world.specs.WorkerSessions.{IsAtRest, worker_session}
use Rattle.rme_session_world.specs.JobRuns.{JobContinuation}
use Rattle.rme_session_world.proofs.Beginning.{climb_phase, ready_parts, ready_phase}
use Rattle.rme_session_world.proofs.Carrying.{tried_too}
use Rattle.rme_session_world.proofs.Events.{nothing_happens}
use Rattle.rme_session_world.proofs.Handing.{climb_resumed, committed, held_resumed}
use Rattle.rme_session_world.proofs.Stances.{begun_known}
use Rattle.rme_session_world.proofs.Tokens.{no_token}

-- ---- a job that may be submitted

ready_stage : (stage : Stage) → phase_of stage ≡ phase.Ready → is_resting_stage stage ≡ true
ready_stage Resting e = refl
ready_stage (Recovering recovery) e = absurd (cc)
ready_stage (Posting slate) e = absurd (cc)
ready_stage (Climbing ascent) e = absurd (cc)
ready_stage (Logging log) e = absurd (cc)
ready_stage (Copying redo) e = absurd (cc)
ready_stage (Leaving departure) e = absurd (cc)

enter_stage : (stage : Stage) → phase_of stage ≡ phase.Enter → is_climbing_stage stage ≡ true
enter_stage Resting e = absurd (cc)
enter_stage (Recovering recovery) e = absurd (cc)
enter_stage (Posting slate) e = absurd (cc)
enter_stage (Climbing ascent) e = refl
enter_stage (Logging log) e = absurd (cc)
enter_stage (Copying redo) e = absurd (cc)
enter_stage (Leaving departure) e = absurd (cc)

not_repeated : (last number : ℕ) → number ≢ last → orders.repeat_refusal last number ≡ None → ⊥
not_repeated last number apart may = elim (cases_Bool (nat_lt 0 number)) [
  | inl some ↦
      (let why : orders.repeat_refusal last number ≡ Some (WrongNumber (last + 1)) = rw some (rw (ne_eqb number last apart) refl) in none-some (WrongNumber (last + 1)) (sym may ∙ why))
  | inr none ↦ (let why : orders.repeat_refusal last number ≡ Some (WrongNumber (last + 1)) = rw none refl in none-some (WrongNumber (last + 1)) (sym may ∙ why))
]

posting_job : (shape : Shape) (last : ℕ) (its : Submission) → its.number ≢ last → orders.posting_refusal shape last its ≡ None → job_refusal shape last its.job ≡ None
posting_job shape last its apart may = elim (cases_Bool (its.number == last + 1)) [
  | inl next ↦ (let same : orders.posting_refusal shape last its ≡ job_refusal shape last its.job = rw next refl in sym same ∙ may)
  | inr other ↦ (let same : orders.posting_refusal shape last its ≡ orders.repeat_refusal last its.number = rw other refl in absurd (not_repeated last its.number apart (sym same ∙ may)))
]

-- The world refuses a job of a ready worker only if the order is refused.
pub may_post : (old : WorldView) (worker : ℕ) (ready : ReadyWorker) (its : Submission) → WorldInvariant old → (rests : IsAtRest old worker) → Ready ready ≡ worker_session old worker → its.number ≢ ready.number
    → orders.posting_refusal old.shape ready.number its ≡ None → submit_refusal old worker its.job ≡ None
may_post old worker ready its kept rests is apart may =
    let parts = ready_parts old worker kept rests ready is in
    let begun : ready.number ≡ rests.0.begun = parts.1 ∙ begun_known old worker rests.0 kept rests.1 rests.2 in
    let stage : is_resting_stage rests.0.stage ≡ true = ready_stage rests.0.stage (ready_phase old worker kept rests ready is) in
    let P : ℕ → Type 0 = λ (n : ℕ). job_refusal old.shape n its.job ≡ None in
    let free : job_refusal old.shape rests.0.begun its.job ≡ None = subst P begun (posting_job old.shape ready.number its apart may) in
    rw rests.1 (rw stage free)

-- ---- orders of a worker with a pending job

pub waits_in : (session : Session) → None ≡ orders.withdraw_order_refusal session → (pending : PendingWorker) × (session ≡ Climb pending)
waits_in Nobody may = absurd (none-some _ may)
waits_in (Ready ready) may = absurd (none-some _ may)
waits_in (Climb pending) may = (pending, refl)
waits_in (Held pending) may = absurd (none-some _ may)

pub may_turn : (old : WorldView) (worker : ℕ) (pending : PendingWorker) → WorldInvariant old → (rests : IsAtRest old worker) → Climb pending ≡ worker_session old worker → withdraw_refusal old worker ≡ None
may_turn old worker pending kept rests is =
    let stage : is_climbing_stage rests.0.stage ≡ true = enter_stage rests.0.stage (climb_phase old worker kept rests pending is) in
    rw rests.1 (rw stage refl)

module _ (old new : WorldView) (worker : ℕ) (planned : PlannedCrash) (worked : WorkedJob) (rests : IsAtRest old worker) (went : JobContinuation goals.Ready worker planned old worked new) where
  pub resumed : (session : Session) → session ≡ worker_session old worker → (patience : Patience) → None ≡ orders.resume_refusal session
      → AppliesOrder old (Some worker) planned (order.Resume patience) (worked_order worker GoOn worked (reply.Resumed worked.outcome)) new
  resumed Nobody is patience may = absurd (none-some _ may)
  resumed (Ready ready) is patience may = absurd (none-some _ may)
  resumed (Climb pending) is patience may = climb_resumed old new worker planned pending worked rests is patience went
  resumed (Held pending) is patience may = held_resumed old new worker planned pending worked rests is patience went

  pub commits : (session : Session) → session ≡ worker_session old worker → None ≡ orders.commit_refusal session
      → AppliesOrder old (Some worker) planned order.Commit (worked_order worker GoOn worked (reply.Committed worked.outcome)) new
  commits Nobody is may = absurd (none-some _ may)
  commits (Ready ready) is may = absurd (none-some _ may)
  commits (Climb pending) is may = absurd (none-some _ may)
  commits (Held pending) is may = committed old new worker planned pending worked rests is went

-- ---- refused orders

-- None of these refusals is that another session has the worker.
one_of : (test : Bool) (one two : Option Refusal) → one ≢ Some Taken → two ≢ Some Taken → (if test then one else two) ≢ Some Taken
one_of true one two first second = first
one_of false one two first second = second

checked_untaken : (long within : Bool) (rest : Option Refusal) → rest ≢ Some Taken → refusal_or_next (if long then Err BadScript else if within then Ok tt else Err NoCell) rest ≢ Some Taken
checked_untaken true within rest untaken = λ q. cc
checked_untaken false true rest untaken = untaken
checked_untaken false false rest untaken = λ q. cc

job_untaken : (shape : Shape) (last : ℕ) (job : Job) → job_refusal shape last job ≢ Some Taken
job_untaken shape last job =
    let many = one_of (nat_lt last shape.jobs) None (Some TooManyJobs) (λ q. cc) (λ q. cc) in
    let checked = checked_untaken (nat_lt 8 job.script.n) (list_all (op_is_within shape.cells) job.script.ops) (if nat_lt last shape.jobs then None else Some TooManyJobs) many in
    one_of (nat_lt job.lock shape.locks) (refusal_or_next (script_check shape.cells job.script) (if nat_lt last shape.jobs then None else Some TooManyJobs)) (Some NoLock) checked (λ q. cc)

repeat_untaken : (last number : ℕ) → orders.repeat_refusal last number ≢ Some Taken
repeat_untaken last number =
    let again = one_of (number == last) None (Some (WrongNumber (last + 1))) (λ q. cc) (λ q. cc) in
    one_of (nat_lt 0 number) (if number == last then None else Some (WrongNumber (last + 1))) (Some (WrongNumber (last + 1))) again (λ q. cc)

posting_untaken : (shape : Shape) (last : ℕ) (its : Submission) → orders.posting_refusal shape last its ≢ Some Taken
posting_untaken shape last its =
    one_of (its.number == last + 1) (job_refusal shape last its.job) (orders.repeat_refusal last its.number) (job_untaken shape last its.job) (repeat_untaken last its.number)

busy_untaken : (session : Session) → orders.busy_refusal session ≢ Some Taken
busy_untaken Nobody q = cc
busy_untaken session q = cc

submit_untaken : (shape : Shape) (session : Session) (its : Submission) → orders.SubmitRefusal shape session its (Some Taken) → ⊥
submit_untaken shape Nobody its refuses = cc
submit_untaken shape (Ready ready) its refuses = posting_untaken shape ready.number its (sym refuses)
submit_untaken shape (Climb pending) its refuses = let q = refuses.1 in cc
submit_untaken shape (Held pending) its refuses = let q = refuses.1 in cc

not_taken : (shape : Shape) (session : Session) (its : Order) → orders.OrderRefusal shape session its (Some Taken) → ⊥
not_taken shape session (order.Attach asked) refuses =
    one_of (nat_lt asked.worker shape.workers) (orders.busy_refusal session) (Some NoWorker) (busy_untaken session) (λ q. cc) (sym refuses)
not_taken shape session (order.Submit its) refuses = submit_untaken shape session its refuses
not_taken shape session (order.Enter its) refuses = submit_untaken shape session its refuses
not_taken shape Nobody its refuses = cc
not_taken shape session its refuses = cc

untaken_why : (shape : Shape) (session : Session) (its : Order) (why : Refusal) → orders.OrderRefusal shape session its (Some why) → reply.Refused why ≢ reply.Refused Taken
untaken_why shape session its why refuses is =
    let same : why ≡ Taken = cc in
    not_taken shape session its (subst (λ (r : Refusal). orders.OrderRefusal shape session its (Some r)) same refuses)

pub refused_carries : (old : WorldView) (worker : ℕ) (planned : PlannedCrash) (its : Order) (why : Refusal) → IsAtRest old worker → orders.OrderRefusal old.shape (worker_session old worker) its (Some why)
    → AppliesOrder old (Some worker) planned its (refused_order why (Some worker) planned) old
refused_carries old worker planned its why rests refuses = record {
  obeys = (0, (refl, inl (tried_too old.shape (worker_session old worker) its (Some why) refuses)));
  happened = nothing_happens old;
  shape = refl;
  own = tt;
  rests = (refl, rests);
  gone = λ none. absurd (none-some worker (sym none));
  others = λ other apart. refl;
  long = refl;
  alone = λ none other. absurd (none-some worker (sym none));
  seats = tt;
  kept = λ none. refl;
  untaken = untaken_why old.shape (worker_session old worker) its why refuses;
  waits = λ waits. cc;
  section = no_token old (worker_session old worker) (reply.Refused why) refl;
  place = tt;
}

-- A session that has a worker attaches none.
pub attach_refused : (shape : Shape) (worker : ℕ) (session : Session) → (session ≡ Nobody → ⊥) → None ≡ orders.attach_refusal shape worker session → ⊥
attach_refused shape worker session some may = elim (cases_Bool (nat_lt worker shape.workers)) [
  | inl there ↦ (let same : orders.attach_refusal shape worker session ≡ orders.busy_refusal session = rw there refl in busy session some (may ∙ same))
  | inr none ↦ (let same : orders.attach_refusal shape worker session ≡ Some NoWorker = rw none refl in none-some NoWorker (may ∙ same))
]
  where
    busy : (s : Session) → (s ≡ Nobody → ⊥) → None ≡ orders.busy_refusal s → ⊥
    busy Nobody apart q = apart refl
    busy (Ready ready) apart q = none-some _ q
    busy (Climb pending) apart q = none-some _ q
    busy (Held pending) apart q = none-some _ q

-- ---- the kinds of a submission

pub climb_may : (shape : Shape) (aim : SubmitAim) (its : Submission) (pending : PendingWorker) → orders.OrderRefusal shape (Climb pending) (order_for aim its) None → orders.PendingJobRefusal pending.number pending.draft its None
climb_may shape aims.Receipt its pending may = may
climb_may shape aims.Inside its pending may = may

pub held_may : (shape : Shape) (aim : SubmitAim) (its : Submission) (pending : PendingWorker) → orders.OrderRefusal shape (Held pending) (order_for aim its) None → orders.PendingJobRefusal pending.number pending.draft its None
held_may shape aims.Receipt its pending may = may
held_may shape aims.Inside its pending may = may
