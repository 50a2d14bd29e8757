-- An order that is executed in parts is executed.
use Rattle.std.proofs.Common.{◌≡◌, ℕ, ◌+◌, ◌<◌, ◌≤◌, arith, inl, inr, refl, sym, ap, ◌∙◌, subst}
use Rattle.std.specs.Prelude.{◌==◌, nat_lt, Bool, true, false, Option, Some, None}
use Rattle.std.proofs.lemmas.Bool.{cases_Bool, eqb-true}
use Rattle.std.proofs.lemmas.Option.{none-some, same_Some}
use Rattle.rme_words.specs.declared.shape.Shape.{Shape}
use Rattle.rme_words.specs.declared.refusal.Refusal.{Refusal}
use Rattle.rme_words.specs.declared.refusal.Refusal.TheVariants.{Differs, WrongNumber}
use Rattle.rme_script.specs.declared.job.Job.{Job}
use Rattle.rme_session_protocol.specs.declared.reply.JobOutcome.{JobOutcome}
use Rattle.rme_session_protocol.specs.declared.reply.JobOutcome.TheVariants.{Receipt, Withdrawn, Waiting, Fell, Inside}
use Rattle.rme_session_protocol.specs.declared.reply.SessionReply.{SessionReply}
use Rattle.rme_session_protocol.specs.declared.reply.SessionReply.TheVariants.{Submitted, Resumed, Entered, Refused}
use Rattle.rme_session_protocol.specs.declared.order.Order.{Order}
use Rattle.rme_session_protocol.specs.declared.order.Order.TheVariants.{Submit, Resume, Enter}
use Rattle.rme_session_protocol.specs.declared.order.Submission.{Submission}
use Rattle.rme_session_protocol.specs.declared.order.Patience.TheVariants.{Tries}
use Rattle.rme_session_protocol.specs.Patience.{least_tries}
use Rattle.rme_session_protocol.specs.SessionSteps.{EnterOrderEffect, EnterPendingEffect, PendingJobEffect, ReadySubmitEffect, ReadyEnterEffect, PlanAfterOrder, WaitsAfterTries, SessionStep, SessionStepInSteps, ResumeOrderEffect, SubmitOrderEffect, JobEffect, last_outcome}
use Rattle.rme_session_protocol.specs.PlannedCrashes.{PlanAfterSteps}
use Rattle.rme_session_protocol.specs.Refusals.{PendingJobRefusal, SubmitRefusal, posting_refusal, repeat_refusal, resume_refusal}
use Rattle.rme_session_protocol.specs.Attempts.{merged_reply, least_patience_tries, retry_order, order_patience, is_still_waiting, submission_with_tries, with_tries}
use Rattle.rme_session_protocol.specs.SessionViews.{WorkerJob, next_worker_job, waiting_worker}
use Rattle.rme_session_protocol.specs.declared.view.PendingWorker.{PendingWorker}
use Rattle.rme_session_protocol.specs.declared.view.ReadyWorker.{ReadyWorker}
use Rattle.rme_session_protocol.specs.declared.view.Session.{Session}
use Rattle.rme_session_protocol.specs.declared.view.Session.TheVariants.{Nobody, Ready, Climb, Held}
use Rattle.rme_session_protocol.specs.declared.view.SessionView.{SessionView}
use Rattle.rme_session_protocol.proofs.Counting.{due_on, left_on}

-- The number of tries of an order affects neither its refusal nor its possible outcomes.
module _ (tries : ℕ) (its : Submission) where
  pending_tried : (number : ℕ) (draft : Option Job) (why : Option Refusal) → PendingJobRefusal number draft (submission_with_tries tries its) why → PendingJobRefusal number draft its why
  pending_tried number draft None refuses = refuses
  pending_tried number draft (Some Differs) refuses = refuses
  pending_tried number draft (Some why) refuses = refuses

  refuses_tried : (shape : Shape) (session : Session) (why : Option Refusal) → SubmitRefusal shape session (submission_with_tries tries its) why → SubmitRefusal shape session its why
  refuses_tried shape Nobody why refuses = refuses
  refuses_tried shape (Ready ready) why refuses = refuses
  refuses_tried shape (Climb pending) why refuses = pending_tried pending.number pending.draft why refuses
  refuses_tried shape (Held pending) why refuses = pending_tried pending.number pending.draft why refuses

  submits_tried : (start now : Session) (became : JobOutcome) → SubmitOrderEffect start (submission_with_tries tries its) now became → SubmitOrderEffect start its now became
  submits_tried Nobody now became submits = submits
  submits_tried (Ready ready) now became submits = submits
  submits_tried (Climb pending) now became submits = submits
  submits_tried (Held pending) now became submits = submits

  enters_tried : (made : ℕ) (start now : Session) (became : JobOutcome) → EnterOrderEffect made start (submission_with_tries tries its) now became → EnterOrderEffect made start its now became
  enters_tried made Nobody now became enters = enters
  enters_tried made (Ready ready) now became enters = enters
  enters_tried made (Climb pending) now became enters = enters
  enters_tried made (Held pending) now became enters = enters

-- All tries were made: the job does not wait, or no try is left.
tried_all : (least tries made : ℕ) (became : JobOutcome) → ((became ≡ Waiting) → least ≤ tries) → WaitsAfterTries tries made became → WaitsAfterTries least made became
tried_all least tries made (Receipt receipt) all some = tt
tried_all least tries made Withdrawn all some = tt
tried_all least tries made Waiting all some = let at = all refl in omega (arith, at, some)
tried_all least tries made Fell all some = tt
tried_all least tries made (Inside token) all some = tt

abbrev pub HasAll : ℕ → Order → SessionReply → Type 0
HasAll tries its reply = is_still_waiting reply ≡ true → least_patience_tries (order_patience its) ≤ tries

module _ (shape : Shape) (made tries : ℕ) (old now : SessionView) where
  pub all_tries : (its : Order) (reply : SessionReply) → HasAll tries its reply → SessionStepInSteps shape made old (with_tries tries its) now reply → SessionStepInSteps shape made old its now reply
  all_tries (Submit its) (Refused why) all (same, inl refuses) = (same, inl (refuses_tried tries its shape old.session (Some why) refuses))
  all_tries (Submit its) (Refused why) all (same, inr misses) = absurd misses
  all_tries (Submit its) (Submitted became) all (none, (submits, left, some)) =
      let enough : (became ≡ Waiting) → least_tries its.patience ≤ tries = λ waits. all (ap (λ (o : JobOutcome). is_still_waiting (Submitted o)) waits) in
      (refuses_tried tries its shape old.session None none, (submits_tried tries its old.session now.session became submits, left, tried_all (least_tries its.patience) tries made became enough some))
  all_tries (Submit its) reply all (none, does) = absurd does
  all_tries (Resume patience) (Refused why) all obeys = obeys
  all_tries (Resume patience) (Resumed became) all (none, (resumes, left, some)) =
      let enough : (became ≡ Waiting) → least_tries patience ≤ tries = λ waits. all (ap (λ (o : JobOutcome). is_still_waiting (Resumed o)) waits) in
      (none, (resumes, left, tried_all (least_tries patience) tries made became enough some))
  all_tries (Resume patience) reply all (none, does) = absurd does
  all_tries (Enter its) (Refused why) all (same, inl refuses) = (same, inl (refuses_tried tries its shape old.session (Some why) refuses))
  all_tries (Enter its) (Refused why) all (same, inr misses) = absurd misses
  all_tries (Enter its) (Entered became) all (none, (enters, left, some)) =
      let enough : (became ≡ Waiting) → least_tries its.patience ≤ tries = λ waits. all (ap (λ (o : JobOutcome). is_still_waiting (Entered o)) waits) in
      (refuses_tried tries its shape old.session None none, (enters_tried tries its made old.session now.session became enters, left, tried_all (least_tries its.patience) tries made became enough some))
  all_tries (Enter its) reply all (none, does) = absurd does
  all_tries its reply all obeys = obeys

-- A worker waited with a job, and then continued it.
works_on : (task : WorkerJob) (now : Session) (became : JobOutcome) → PendingJobEffect (waiting_worker task) now became → JobEffect task now became
works_on task (Ready ready) (Receipt receipt) (job, draft, works) =
    let same : job ≡ task.job = same_Some job task.job (sym draft) in
    let P : Job → Type 0 = λ j. JobEffect (record { worker = task.worker; number = task.number; job = j }) (Ready ready) (Receipt receipt) in
    subst P same works
works_on task (Climb pending) Waiting still = still
works_on task Nobody Fell fell = tt
works_on task now became goes = absurd goes

works_waiting : (task : WorkerJob) (mid now : Session) (became : JobOutcome) → JobEffect task mid Waiting → ResumeOrderEffect mid now became → JobEffect task now became
works_waiting task Nobody now became waits resumes = absurd waits
works_waiting task (Ready ready) now became waits resumes = absurd waits
works_waiting task (Climb pending) now became waits resumes =
    let P : PendingWorker → Type 0 = λ p. PendingJobEffect p now became in works_on task now became (subst P waits resumes)
works_waiting task (Held pending) now became waits resumes = absurd waits

goes_waiting : (start : PendingWorker) (mid now : Session) (became : JobOutcome) → PendingJobEffect start mid Waiting → ResumeOrderEffect mid now became → PendingJobEffect start now became
goes_waiting start Nobody now became waits resumes = absurd waits
goes_waiting start (Ready ready) now became waits resumes = absurd waits
goes_waiting start (Climb pending) now became waits resumes = let P : PendingWorker → Type 0 = λ p. PendingJobEffect p now became in subst P waits resumes
goes_waiting start (Held pending) now became waits resumes = absurd waits

told_waits : (ready : ReadyWorker) → Waiting ≡ last_outcome ready.last → ⊥
told_waits ready same = told_never ready.last same
  where
    told_never : (last : Option _) → Waiting ≡ last_outcome last → ⊥
    told_never (Some receipt) is = cc
    told_never None is = cc

hands_waiting : (again : Bool) (ready : ReadyWorker) (job : Job) (mid now : Session) (became : JobOutcome) → ReadySubmitEffect again ready job mid Waiting → ResumeOrderEffect mid now became → ReadySubmitEffect again ready job now became
hands_waiting true ready job mid now became (same, waits) resumes = absurd (told_waits ready waits)
hands_waiting false ready job mid now became waits resumes = works_waiting (next_worker_job ready job) mid now became waits resumes

submits_waiting : (start mid now : Session) (its : Submission) (became : JobOutcome) → SubmitOrderEffect start its mid Waiting → ResumeOrderEffect mid now became → SubmitOrderEffect start its now became
submits_waiting Nobody mid now its became waits resumes = absurd waits
submits_waiting (Ready ready) mid now its became waits resumes = hands_waiting (its.number == ready.number) ready its.job mid now became waits resumes
submits_waiting (Climb pending) mid now its became waits resumes = goes_waiting pending mid now became waits resumes
submits_waiting (Held pending) mid now its became waits resumes = goes_waiting pending mid now became waits resumes

resumes_waiting : (start mid now : Session) (became : JobOutcome) → ResumeOrderEffect start mid Waiting → ResumeOrderEffect mid now became → ResumeOrderEffect start now became
resumes_waiting Nobody mid now became waits resumes = absurd waits
resumes_waiting (Ready ready) mid now became waits resumes = absurd waits
resumes_waiting (Climb pending) mid now became waits resumes = goes_waiting pending mid now became waits resumes
resumes_waiting (Held pending) mid now became waits resumes = goes_waiting pending mid now became waits resumes

-- A worker waited to get inside, and then continued until it was.
inside_waiting : (start : PendingWorker) (mid now : Session) (its : Submission) (made : ℕ) (became : JobOutcome) → EnterPendingEffect start mid Waiting → EnterOrderEffect made mid its now became
    → EnterPendingEffect start now became
inside_waiting start Nobody now its made became waits enters = absurd waits
inside_waiting start (Ready ready) now its made became waits enters = absurd waits
inside_waiting start (Climb pending) now its made became waits enters = let P : PendingWorker → Type 0 = λ p. EnterPendingEffect p now became in subst P waits enters
inside_waiting start (Held pending) now its made became waits enters = absurd waits

hands_inside_waiting : (again : Bool) (ready : ReadyWorker) (mid now : Session) (its : Submission) (made : ℕ) (became : JobOutcome) → ReadyEnterEffect again ready its.job mid Waiting
    → EnterOrderEffect made mid its now became → ReadyEnterEffect again ready its.job now became
hands_inside_waiting true ready mid now its made became (same, waits) enters = absurd (told_waits ready waits)
hands_inside_waiting false ready mid now its made became waits enters = inside_waiting (waiting_worker (next_worker_job ready its.job)) mid now its made became waits enters

enters_waiting : (one two both : ℕ) (start mid now : Session) (its : Submission) (became : JobOutcome) → EnterOrderEffect one start its mid Waiting → EnterOrderEffect two mid its now became → EnterOrderEffect both start its now became
enters_waiting one two both Nobody mid now its became waits enters = absurd waits
enters_waiting one two both (Ready ready) mid now its became waits enters = hands_inside_waiting (its.number == ready.number) ready mid now its two became waits enters
enters_waiting one two both (Climb pending) mid now its became waits enters = inside_waiting pending mid now its two became waits enters
enters_waiting one two both (Held pending) mid now its became (none, same, waits) enters = absurd waits

-- The planned crash comes earlier by the own steps of both parts.
left_both : (one two : ℕ) (old mid now : SessionView) (became : JobOutcome) → PlanAfterSteps old.planned one mid.planned → PlanAfterOrder two mid now became → PlanAfterOrder (one + two) old now became
left_both one two old mid now (Receipt receipt) first left = left_on old.planned mid.planned now.planned one two first left
left_both one two old mid now Withdrawn first left = left_on old.planned mid.planned now.planned one two first left
left_both one two old mid now Waiting first left = left_on old.planned mid.planned now.planned one two first left
left_both one two old mid now (Inside token) first left = left_on old.planned mid.planned now.planned one two first left
left_both one two old mid now Fell first (due, same) = (due_on old.planned mid.planned one two first due, same)

-- A waiting job is that of a climbing worker, and continuing it is not refused.
abbrev pub IsClimb : Session → Type 0
IsClimb (Climb pending) = Unit {0}
IsClimb other = ⊥

goes_climbs : (start : PendingWorker) (mid : Session) → PendingJobEffect start mid Waiting → IsClimb mid
goes_climbs start Nobody waits = waits
goes_climbs start (Ready ready) waits = waits
goes_climbs start (Climb pending) waits = tt
goes_climbs start (Held pending) waits = waits

works_climbs : (task : WorkerJob) (mid : Session) → JobEffect task mid Waiting → IsClimb mid
works_climbs task Nobody waits = waits
works_climbs task (Ready ready) waits = waits
works_climbs task (Climb pending) waits = tt
works_climbs task (Held pending) waits = waits

hands_climbs : (again : Bool) (ready : ReadyWorker) (job : Job) (mid : Session) → ReadySubmitEffect again ready job mid Waiting → IsClimb mid
hands_climbs true ready job mid (same, waits) = absurd (told_waits ready waits)
hands_climbs false ready job mid waits = works_climbs (next_worker_job ready job) mid waits

submits_climbs : (start mid : Session) (its : Submission) → SubmitOrderEffect start its mid Waiting → IsClimb mid
submits_climbs Nobody mid its waits = absurd waits
submits_climbs (Ready ready) mid its waits = hands_climbs (its.number == ready.number) ready its.job mid waits
submits_climbs (Climb pending) mid its waits = goes_climbs pending mid waits
submits_climbs (Held pending) mid its waits = goes_climbs pending mid waits

resumes_climbs : (start mid : Session) → ResumeOrderEffect start mid Waiting → IsClimb mid
resumes_climbs Nobody mid waits = absurd waits
resumes_climbs (Ready ready) mid waits = absurd waits
resumes_climbs (Climb pending) mid waits = goes_climbs pending mid waits
resumes_climbs (Held pending) mid waits = goes_climbs pending mid waits

inside_climbs : (start : PendingWorker) (mid : Session) → EnterPendingEffect start mid Waiting → IsClimb mid
inside_climbs start Nobody waits = waits
inside_climbs start (Ready ready) waits = waits
inside_climbs start (Climb pending) waits = tt
inside_climbs start (Held pending) waits = waits

hands_inside_climbs : (again : Bool) (ready : ReadyWorker) (job : Job) (mid : Session) → ReadyEnterEffect again ready job mid Waiting → IsClimb mid
hands_inside_climbs true ready job mid (same, waits) = absurd (told_waits ready waits)
hands_inside_climbs false ready job mid waits = inside_climbs (waiting_worker (next_worker_job ready job)) mid waits

enters_climbs : (made : ℕ) (start mid : Session) (its : Submission) → EnterOrderEffect made start its mid Waiting → IsClimb mid
enters_climbs made Nobody mid its waits = absurd waits
enters_climbs made (Ready ready) mid its waits = hands_inside_climbs (its.number == ready.number) ready its.job mid waits
enters_climbs made (Climb pending) mid its waits = inside_climbs pending mid waits
enters_climbs made (Held pending) mid its (none, same, waits) = absurd waits

pub climb_not_refused : (mid : Session) (why : Refusal) → IsClimb mid → Some why ≡ resume_refusal mid → ⊥
climb_not_refused Nobody why climbs refuses = climbs
climb_not_refused (Ready ready) why climbs refuses = climbs
climb_not_refused (Climb pending) why climbs refuses = none-some why (sym refuses)
climb_not_refused (Held pending) why climbs refuses = climbs

pub false_true : false ≡ true → ⊥
false_true same = cc

-- The job of a worker that waits to get inside is that of the order.
abbrev pub IsWith : Submission → Session → Type 0
IsWith its (Climb pending) = (pending.number ≡ its.number) × (pending.draft ≡ Some its.job)
IsWith its other = ⊥

inside_with : (its : Submission) (start : PendingWorker) (mid : Session) → start.number ≡ its.number → start.draft ≡ Some its.job → EnterPendingEffect start mid Waiting → IsWith its mid
inside_with its start Nobody number draft waits = waits
inside_with its start (Ready ready) number draft waits = waits
inside_with its start (Climb pending) number draft waits =
    (ap (λ (p : PendingWorker). p.number) waits ∙ number, ap (λ (p : PendingWorker). p.draft) waits ∙ draft)
inside_with its start (Held pending) number draft waits = waits

-- A number that is not refused and is not the last one is the next.
not_repeated : (last : ℕ) (its : Submission) → (its.number == last) ≡ false → None ≡ repeat_refusal last its.number → ⊥
not_repeated last its other none = elim (cases_Bool (nat_lt 0 its.number)) [
  | inl some ↦ (let is : repeat_refusal last its.number ≡ Some (WrongNumber (last + 1)) = rw some (rw other refl) in none-some (WrongNumber (last + 1)) (none ∙ is))
  | inr zero ↦ (let is : repeat_refusal last its.number ≡ Some (WrongNumber (last + 1)) = rw zero refl in none-some (WrongNumber (last + 1)) (none ∙ is))
]

is_next : (shape : Shape) (last : ℕ) (its : Submission) → (its.number == last) ≡ false → None ≡ posting_refusal shape last its → its.number ≡ last + 1
is_next shape last its other none = elim (cases_Bool (its.number == last + 1)) [
  | inl next ↦ eqb-true its.number (last + 1) next
  | inr not ↦ (let repeats : posting_refusal shape last its ≡ repeat_refusal last its.number = rw not refl in absurd (not_repeated last its other (none ∙ repeats)))
]

enters_with : (shape : Shape) (made : ℕ) (start mid : Session) (its : Submission) → SubmitRefusal shape start its None → EnterOrderEffect made start its mid Waiting → IsWith its mid
enters_with shape made Nobody mid its none waits = absurd waits
enters_with shape made (Ready ready) mid its none waits = handed (its.number == ready.number) refl waits
  where
    handed : (again : Bool) → (its.number == ready.number) ≡ again → ReadyEnterEffect again ready its.job mid Waiting → IsWith its mid
    handed true is (same, waits) = absurd (told_waits ready waits)
    handed false is waits = inside_with its (waiting_worker (next_worker_job ready its.job)) mid (sym (is_next shape ready.number its is none)) refl waits
enters_with shape made (Climb pending) mid its none waits = inside_with its pending mid (sym none.0) none.1 waits
enters_with shape made (Held pending) mid its none (zero, same, waits) = absurd waits

pending_not_refused : (number : ℕ) (draft : Option Job) (its : Submission) (why : Refusal) → number ≡ its.number → draft ≡ Some its.job → PendingJobRefusal number draft its (Some why) → ⊥
pending_not_refused number draft its Differs same has refuses = refuses.1 has
pending_not_refused number draft its why same has refuses = refuses.0 (sym same)

with_not_refused : (shape : Shape) (mid : Session) (its : Submission) (why : Refusal) → IsWith its mid → SubmitRefusal shape mid its (Some why) → ⊥
with_not_refused shape Nobody its why is refuses = is
with_not_refused shape (Ready ready) its why is refuses = is
with_not_refused shape (Climb pending) its why is refuses = pending_not_refused pending.number pending.draft its why is.0 is.1 refuses
with_not_refused shape (Held pending) its why is refuses = is

pub enter_not_refused : (shape : Shape) (tries made : ℕ) (old mid : SessionView) (its : Submission) (why : Refusal) → SessionStepInSteps shape made old (Enter (submission_with_tries tries its)) mid (Entered Waiting)
    → SubmitRefusal shape mid.session (submission_with_tries 1 its) (Some why) → ⊥
enter_not_refused shape tries made old mid its why (none, (enters, left, first)) refuses =
    with_not_refused shape mid.session its why
    (enters_with shape made old.session mid.session its (refuses_tried tries its shape old.session None none) (enters_tried tries its made old.session mid.session Waiting enters))
    (refuses_tried 1 its shape mid.session (Some why) refuses)

-- Each part had at least one step for each of its tries.
tried_both : (tries one two : ℕ) (became : JobOutcome) → tries ≤ one → WaitsAfterTries 1 two became → WaitsAfterTries (tries + 1) (one + two) became
tried_both tries one two (Receipt receipt) first more = tt
tried_both tries one two Withdrawn first more = tt
tried_both tries one two Waiting first more = omega (arith, first, more)
tried_both tries one two Fell first more = tt
tried_both tries one two (Inside token) first more = tt

-- One more try, after the first ones.
module _ (shape : Shape) (tries one two : ℕ) (old mid now : SessionView) where
  submitted_on : (its : Submission) (last : SessionReply) → SessionStepInSteps shape one old (Submit (submission_with_tries tries its)) mid (Submitted Waiting) → SessionStepInSteps shape two mid (Resume (Tries 1)) now last
      → SessionStepInSteps shape (one + two) old (Submit (submission_with_tries (tries + 1) its)) now (merged_reply (Submitted Waiting) last)
  submitted_on its (Resumed became) (none, (submits, left, first)) (some, (resumes, later, more)) = (
    refuses_tried tries (submission_with_tries (tries + 1) its) shape old.session None none,
    (
      submits_tried tries (submission_with_tries (tries + 1) its) old.session now.session became (submits_waiting old.session mid.session now.session (submission_with_tries tries its) became submits resumes),
      left_both one two old mid now became left later,
      tried_both tries one two became first more,
    ),
  )
  submitted_on its (Refused why) (none, (submits, left, first)) (same, inl refuses) =
      absurd (climb_not_refused mid.session why (submits_climbs old.session mid.session (submission_with_tries tries its) submits) refuses)
  submitted_on its (Refused why) obeys (same, inr misses) = absurd misses
  submitted_on its last obeys (some, does) = absurd does

  resumed_on : (last : SessionReply) → SessionStepInSteps shape one old (Resume (Tries tries)) mid (Resumed Waiting) → SessionStepInSteps shape two mid (Resume (Tries 1)) now last
      → SessionStepInSteps shape (one + two) old (Resume (Tries (tries + 1))) now (merged_reply (Resumed Waiting) last)
  resumed_on (Resumed became) (none, (resumes, left, first)) (some, (more, later, again)) =
      (none, (resumes_waiting old.session mid.session now.session became resumes more, left_both one two old mid now became left later, tried_both tries one two became first again))
  resumed_on (Refused why) (none, (resumes, left, first)) (same, inl refuses) =
      absurd (climb_not_refused mid.session why (resumes_climbs old.session mid.session resumes) refuses)
  resumed_on (Refused why) obeys (same, inr misses) = absurd misses
  resumed_on last obeys (some, does) = absurd does

  entered_on : (its : Submission) (last : SessionReply) → SessionStepInSteps shape one old (Enter (submission_with_tries tries its)) mid (Entered Waiting) → SessionStepInSteps shape two mid (Enter (submission_with_tries 1 its)) now last
      → SessionStepInSteps shape (one + two) old (Enter (submission_with_tries (tries + 1) its)) now (merged_reply (Entered Waiting) last)
  entered_on its (Entered became) (none, (enters, left, first)) (some, (goes, later, more)) = (
    refuses_tried tries (submission_with_tries (tries + 1) its) shape old.session None none,
    (
      enters_waiting one two (one + two) old.session mid.session now.session (submission_with_tries (tries + 1) its) became
          (enters_tried tries (submission_with_tries (tries + 1) its) one old.session mid.session Waiting enters) (enters_tried 1 (submission_with_tries (tries + 1) its) two mid.session now.session became goes),
      left_both one two old mid now became left later,
      tried_both tries one two became first more,
    ),
  )
  entered_on its (Refused why) obeys (same, inl refuses) = absurd (enter_not_refused shape tries one old mid its why obeys refuses)
  entered_on its (Refused why) obeys (same, inr misses) = absurd misses
  entered_on its last obeys (some, does) = absurd does

  pub both_parts : (its : Order) (reply last : SessionReply) → is_still_waiting reply ≡ true → SessionStepInSteps shape one old (with_tries tries its) mid reply → SessionStepInSteps shape two mid (retry_order its) now last
      → SessionStepInSteps shape (one + two) old (with_tries (tries + 1) its) now (merged_reply reply last)
  both_parts (Submit its) (Submitted Waiting) last waits obeys more = submitted_on its last obeys more
  both_parts (Resume patience) (Resumed Waiting) last waits obeys more = resumed_on last obeys more
  both_parts (Enter its) (Entered Waiting) last waits obeys more = entered_on its last obeys more
  both_parts (Submit its) (Resumed Waiting) last waits obeys more = absurd obeys.1
  both_parts (Submit its) (Entered Waiting) last waits obeys more = absurd obeys.1
  both_parts (Resume patience) (Submitted Waiting) last waits obeys more = absurd obeys.1
  both_parts (Resume patience) (Entered Waiting) last waits obeys more = absurd obeys.1
  both_parts (Enter its) (Submitted Waiting) last waits obeys more = absurd obeys.1
  both_parts (Enter its) (Resumed Waiting) last waits obeys more = absurd obeys.1
  both_parts its (Submitted Waiting) last waits obeys more = absurd obeys.1
  both_parts its (Resumed Waiting) last waits obeys more = absurd obeys.1
  both_parts its (Entered Waiting) last waits obeys more = absurd obeys.1
  both_parts its reply last waits obeys more = absurd (false_true waits)

-- After tries whose job waits, the worker climbs and has made a step.
module _ (shape : Shape) (tries made : ℕ) (old mid : SessionView) (some : 0 < tries) where
  pub still_climbs : (its : Order) (reply : SessionReply) → is_still_waiting reply ≡ true → SessionStepInSteps shape made old (with_tries tries its) mid reply → IsClimb mid.session × (0 < made)
  still_climbs (Submit its) (Submitted Waiting) waits (none, (submits, left, first)) = (submits_climbs old.session mid.session (submission_with_tries tries its) submits, omega (arith, first, some))
  still_climbs (Resume patience) (Resumed Waiting) waits (none, (resumes, left, first)) = (resumes_climbs old.session mid.session resumes, omega (arith, first, some))
  still_climbs (Enter its) (Entered Waiting) waits (none, (enters, left, first)) = (enters_climbs made old.session mid.session (submission_with_tries tries its) enters, omega (arith, first, some))
  still_climbs (Submit its) (Resumed Waiting) waits obeys = absurd obeys.1
  still_climbs (Submit its) (Entered Waiting) waits obeys = absurd obeys.1
  still_climbs (Resume patience) (Submitted Waiting) waits obeys = absurd obeys.1
  still_climbs (Resume patience) (Entered Waiting) waits obeys = absurd obeys.1
  still_climbs (Enter its) (Submitted Waiting) waits obeys = absurd obeys.1
  still_climbs (Enter its) (Resumed Waiting) waits obeys = absurd obeys.1
  still_climbs its (Submitted Waiting) waits obeys = absurd obeys.1
  still_climbs its (Resumed Waiting) waits obeys = absurd obeys.1
  still_climbs its (Entered Waiting) waits obeys = absurd obeys.1
  still_climbs its reply waits obeys = absurd (false_true waits)

-- Some tries, followed by one more while the job waits, are the order with one more try.
pub obeyed_in_parts : (shape : Shape) (tries : ℕ) (old mid now : SessionView) (its : Order) (reply last : SessionReply) → is_still_waiting reply ≡ true → SessionStep shape old (with_tries tries its) mid reply
    → SessionStep shape mid (retry_order its) now last → SessionStep shape old (with_tries (tries + 1) its) now (merged_reply reply last)
obeyed_in_parts shape tries old mid now its reply last waits (one, first) (two, more) = (one + two, both_parts shape tries one two old mid now its reply last waits first more)

-- The job of a waiting worker is the submitted one, or the one that it had.
pub waits_with : (shape : Shape) (made : ℕ) (old mid : SessionView) (pending : PendingWorker) (its : Submission) → mid.session ≡ Climb pending
    → SessionStepInSteps shape made old (Submit its) mid (Submitted Waiting) → pending.draft ≡ Some its.job
waits_with shape made old mid pending its at (none, (submits, left, submission_with_tries)) =
    let P : Session → Type 0 = λ s. SubmitOrderEffect old.session its s Waiting in waiting_job old.session none (subst P at submits)
  where
    still_has : (start : PendingWorker) → start.draft ≡ Some its.job → pending ≡ start → pending.draft ≡ Some its.job
    still_has start has same = ap (λ (p : PendingWorker). p.draft) same ∙ has

    handed_job : (again : Bool) (ready : ReadyWorker) → ReadySubmitEffect again ready its.job (Climb pending) Waiting → pending.draft ≡ Some its.job
    handed_job true ready (same, waits) = absurd (told_waits ready waits)
    handed_job false ready waits = ap (λ (p : PendingWorker). p.draft) waits

    waiting_job : (start : Session) → SubmitRefusal shape start its None → SubmitOrderEffect start its (Climb pending) Waiting → pending.draft ≡ Some its.job
    waiting_job Nobody refuses waits = absurd waits
    waiting_job (Ready ready) refuses waits = handed_job (its.number == ready.number) ready waits
    waiting_job (Climb start) refuses waits = still_has start refuses.1 waits
    waiting_job (Held start) refuses waits = still_has start refuses.1 waits
