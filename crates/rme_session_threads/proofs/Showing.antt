-- The session view after an order was executed.
use Rattle.std.proofs.Common.{◌≡◌, ℕ, ◌+◌, ◌-◌, List, [], ◌∷◌, ◌++◌, length, arith, refl, sym, ap, ◌∙◌, subst}
use Rattle.std.specs.Prelude.{◌==◌, false, slice_get, Option, Some, None}
use Rattle.std.proofs.lemmas.Bool.{eq-eqb, ne_eqb}
use Rattle.std.proofs.lemmas.List.{length-append}
use Rattle.rme_words.specs.declared.shape.Shape.{Shape}
use Rattle.rme_script.specs.Programs.{Program}
use Rattle.rme_script.specs.declared.job.Job.{Job}
use Rattle.rme_program.specs.declared.note.Entry.{Entry}
use Rattle.rme_program.specs.declared.note.Receipt.{Receipt}
use Rattle.rme_service_steps.specs.declared.seat_record.Part.{Part}
use Rattle.rme_service_steps.specs.Parts.{draft_script, unchanged_part, withdrawing_part}
use Rattle.rme_service_steps.specs.SeatViews.{ServiceId, SeatView}
use Rattle.rme_table.specs.Calls as table
use Rattle.rme_table.specs.Calls.{last_receipt}
use Rattle.rme_script.specs.JobRefusals.{job_refusal}
use Rattle.rme_session_protocol.specs.declared.reply.JobOutcome.{JobOutcome}
use Rattle.rme_session_protocol.specs.declared.reply.JobOutcome.TheVariants as outcome
use Rattle.rme_session_protocol.specs.declared.reply.FencingToken.{FencingToken}
use Rattle.rme_session_protocol.specs.declared.reply.SessionReply.{SessionReply}
use Rattle.rme_session_protocol.specs.declared.reply.SessionReply.TheVariants as reply
use Rattle.rme_session_protocol.specs.declared.order.Order.TheVariants as order
use Rattle.rme_session_protocol.specs.declared.order.Submission.{Submission}
use Rattle.rme_session_protocol.specs.SessionSteps as sight
use Rattle.rme_session_protocol.specs.Refusals.{PendingJobRefusal, SubmitRefusal, resume_refusal}
use Rattle.rme_script.specs.JobRefusals.{job_refusal}
use Rattle.rme_session_protocol.specs.SessionViews.{IsJobReceipt, WorkerJob, waiting_worker}
use Rattle.rme_session_protocol.specs.declared.planned_crash.PlannedCrash.{PlannedCrash}
use Rattle.rme_session_protocol.specs.declared.view.PendingWorker.{PendingWorker}
use Rattle.rme_session_protocol.specs.declared.view.ReadyWorker.{ReadyWorker}
use Rattle.rme_session_protocol.specs.declared.view.Session as shown
use Rattle.rme_session_protocol.specs.declared.view.Session.TheVariants as at
use Rattle.rme_session_protocol.proofs.Refusing.{last_repeated, next_posted}
use Rattle.rme_session_protocol.specs.Patience.{least_tries}
use Rattle.rme_session_protocol.specs.declared.order.Patience.{Patience}
use Rattle.rme_session_threads.specs.ThreadSteps.{stand_change, ThreadOrderExecution, AppendsJobEntry, EnterEntries, EntersWithoutEntry, OrderOwnSteps, ResumeEntries, SubmitEntries}
use Rattle.rme_session_threads.specs.Stands.{IsShownReceipt, held_worker, holding_session, pending_worker_of, stand_view}
use Rattle.rme_session_threads.specs.SessionWorks.{IsResumeWork, IsSubmitWork, WorkWithinPlan, WorkEffect, work_holding, work_lead, work_until_inside}
use Rattle.rme_session_threads.specs.JobOutcomes.{HasKnownPlace, OwnStepsThenLoad, TellsWorkerSection, WorkerHasSection, part_when_told, seat_with_section, worker_token, ThreadEnterEffect, ThreadEnterPendingEffect, ThreadPendingJobEffect, ThreadWaitsAfterTries, ThreadRepeatEffect, OwnStepsBetween, ThreadJobEffect, stand_pending_job, submit_lead, stand_next_job, stand_steps, holding_steps}
use Rattle.rme_session_threads.specs.declared.stand.Holding.{Holding}
use Rattle.rme_session_threads.specs.declared.stand.Holding.TheVariants.{Empty, Ready, Climb, Held}
use Rattle.rme_session_threads.specs.declared.stand.Stand.{Stand as Session}
use Rattle.rme_session_threads.specs.declared.work.SessionWork.{SessionWork}
use Rattle.rme_session_threads.specs.declared.work.SessionWork.TheVariants.{Repeat, Post, GoIn, GoOn, Stay}
use Rattle.rme_session_threads.specs.declared.work.WorkGoal.TheVariants as until
use Rattle.rme_session_threads.proofs.Working.{led_inside, led_onward, led_so}

-- The last one of some entries.
last_at : (before : List Entry) (entry : Entry) → slice_get (before ++ entry ∷ []) (length before) ≡ Some entry
last_at [] entry = refl
last_at (first ∷ before) entry = last_at before entry

last_of_all : (before : List Entry) (entry : Entry) → last_receipt (before ++ entry ∷ []) ≡ Some entry.receipt
last_of_all before entry =
    let long = length-append before (entry ∷ []) in
    let at : length (before ++ entry ∷ []) - 1 ≡ length before = omega (arith, long) in
    ap (λ (k : ℕ). table.receipt_of_entry (slice_get (before ++ entry ∷ []) k)) at ∙ ap (λ (found : Option Entry). table.receipt_of_entry found) (last_at before entry)

abbrev ready_so : ℕ → ℕ → Option Receipt → ReadyWorker
ready_so worker number last = record { worker = worker; number = number; last = last }

same_ready : (worker other number second : ℕ) (last : Option Receipt) → worker ≡ other → number ≡ second → ready_so worker number last ≡ ready_so other second last
same_ready worker other number second last own same = rw (own, same) refl

abbrev pending_so : ℕ → ℕ → Option Job → PendingWorker
pending_so worker number draft = record { worker = worker; number = number; draft = draft }

same_pending : (worker other number second : ℕ) (draft given : Option Job) → worker ≡ other → number ≡ second → draft ≡ given → pending_so worker number draft ≡ pending_so other second given
same_pending worker other number second draft given own same has = rw (own, same, has) refl

abbrev entry_so : Receipt → Program → Entry
entry_so receipt script = record { receipt = receipt; script = script }

same_entry : (one other : Receipt) (script second : Program) → one ≡ other → script ≡ second → entry_so one script ≡ entry_so other second
same_entry one other script second told same = rw (told, same) refl

-- The view and the entries after work on a job.
pub works_shown : (task : WorkerJob) (before : List Entry) (value : Holding) (became : JobOutcome) → ThreadJobEffect task before value became
    → (after : Option Receipt) × sight.JobEffect task (holding_session after value) became × IsShownReceipt value after × AppendsJobEntry before task.job.script value became
works_shown task before (Ready ready) (outcome.Receipt receipt) (entry, done, same) =
    let is : entry ≡ record { receipt = receipt; script = task.job.script } = same_entry entry.receipt receipt entry.script task.job.script same done.is_of.script in
    let receipt_is : IsJobReceipt task entry.receipt = record { by = done.is_of.by; number = done.is_of.number; lock = done.is_of.lock } in (
      Some receipt,
      (
        subst (λ (r : Receipt). IsJobReceipt task r) same receipt_is,
        same_ready ready.part.worker task.worker ready.part.private.begun task.number (Some receipt) done.own done.number,
      ),
      ap (λ (es : List Entry). last_receipt es) done.entries ∙ last_of_all before entry ∙ ap (λ (r : Receipt). Some r) same,
      done.entries ∙ ap (λ (e : Entry). before ++ e ∷ []) is,
    )
works_shown task before (Climb climb) outcome.Waiting waits = (
  None,
  same_pending climb.part.worker task.worker climb.part.private.begun task.number climb.part.draft (Some task.job) waits.own waits.number waits.draft,
  tt,
  waits.entries,
)
works_shown task before Empty outcome.Fell fell = (None, tt, tt, tt)
works_shown task before value became works = absurd works

pub goes_shown : (start : SeatView) (value : Holding) (became : JobOutcome) → ThreadPendingJobEffect start value became
    → (after : Option Receipt) × sight.PendingJobEffect (pending_worker_of start) (holding_session after value) became × IsShownReceipt value after × AppendsJobEntry start.part.entries (draft_script start.part.draft) value became
goes_shown start (Ready ready) (outcome.Receipt receipt) (job, draft, works) =
    let so = works_shown (stand_pending_job start job) start.part.entries (Ready ready) (outcome.Receipt receipt) works in
    let P : Option Job → Type 0 = λ its. AppendsJobEntry start.part.entries (draft_script its) (Ready ready) (outcome.Receipt receipt) in
    (so.0, (job, draft, so.1), so.2, subst P (sym draft) so.3)
goes_shown start (Climb climb) outcome.Waiting still = (
  None,
  same_pending climb.part.worker start.part.worker climb.part.private.begun start.part.private.begun climb.part.draft start.part.draft still.own still.number still.draft,
  tt,
  still.entries,
)
goes_shown start Empty outcome.Fell fell = (None, tt, tt, tt)
goes_shown start value became goes = absurd goes

-- The own steps made, and the rest of the plan.
pub through_shown : (shape : Shape) (lead : Part → Part) (old now : Session) (became : JobOutcome) (let_go : Option SeatView) (before after : Option Receipt)
    → WorkWithinPlan shape lead old now became let_go → (made : ℕ) × sight.PlanAfterOrder made (stand_view before old) (stand_view after now) became × OrderOwnSteps shape lead made (stand_change old now let_go) became
through_shown shape lead old now (outcome.Receipt receipt) let_go before after ((made, went, leaves), none) = (made, leaves, (went, none))
through_shown shape lead old now outcome.Withdrawn let_go before after ((made, went, leaves), none) = (made, leaves, (went, none))
through_shown shape lead old now outcome.Waiting let_go before after ((made, went, leaves), none) = (made, leaves, (went, none))
through_shown shape lead old now (outcome.Inside token) let_go before after ((made, went, leaves), none) = (made, leaves, (went, none))
through_shown shape lead old now outcome.Fell let_go before after ((made, went, due), same) = (made, (due, ap (λ (s : Session). stand_view after s) same), went)

steps_made : (shape : Shape) (lead : Part → Part) (start end : Option SeatView) (made : ℕ) → OwnStepsBetween shape lead start end made → stand_steps end ≡ stand_steps start + made
steps_made shape lead (Some start) (Some end) made went = went.steps
steps_made shape lead (Some start) None made went = absurd went
steps_made shape lead None end made went = absurd went

pub tried_shown : (shape : Shape) (lead : Part → Part) (tries made : ℕ) (old now : Session) (became : JobOutcome) (let_go : Option SeatView) → OrderOwnSteps shape lead made (stand_change old now let_go) became
    → ThreadWaitsAfterTries tries (holding_steps old.value) now.value became → sight.WaitsAfterTries tries made became
tried_shown shape lead tries made old now (outcome.Receipt receipt) let_go walked tried = tt
tried_shown shape lead tries made old now outcome.Withdrawn let_go walked tried = tt
tried_shown shape lead tries made old now outcome.Waiting let_go walked tried =
    let steps = steps_made shape lead (held_worker old.value) (held_worker now.value) made walked.0 in omega (arith, steps, tried)
tried_shown shape lead tries made old now outcome.Fell let_go walked tried = tt
tried_shown shape lead tries made old now (outcome.Inside token) let_go walked tried = tt

module _ (ident : ServiceId) (count : ℕ) (old now : Session) (became : JobOutcome) (let_go : Option SeatView) where
  submitted_so : (its : Submission) (before after : Option Receipt) → SubmitRefusal ident.shape (holding_session before old.value) its None
      → sight.SubmitOrderEffect (holding_session before old.value) its (holding_session after now.value) became → IsShownReceipt old.value before → IsShownReceipt now.value after
      → SubmitEntries ident.shape old.value its now.value became → WorkWithinPlan ident.shape (submit_lead old.value its.job) old now became let_go
      → ThreadWaitsAfterTries (least_tries its.patience) (holding_steps old.value) now.value became → HasKnownPlace old.value became
      → ThreadOrderExecution ident count (stand_change old now let_go) (order.Submit its) (reply.Submitted became)
  submitted_so its before after refuses submits told_before told_after enters through tried placed =
      let so = through_shown ident.shape (submit_lead old.value its.job) old now became let_go before after through in record {
        made = so.0;
        before = before;
        after = after;
        obeys = (refuses, (submits, so.1, tried_shown ident.shape (submit_lead old.value its.job) (least_tries its.patience) so.0 old now became let_go so.2 tried));
        told_before = told_before;
        told_after = told_after;
        adds = (enters, so.2);
        section = tt;
        place = placed;
      }

  resumed_so : (patience : Patience) (after : Option Receipt) → None ≡ resume_refusal (holding_session None old.value) → sight.ResumeOrderEffect (holding_session None old.value) (holding_session after now.value) became
      → IsShownReceipt now.value after → ResumeEntries old.value now.value became → WorkWithinPlan ident.shape unchanged_part old now became let_go
      → ThreadWaitsAfterTries (least_tries patience) (holding_steps old.value) now.value became → HasKnownPlace old.value became
      → ThreadOrderExecution ident count (stand_change old now let_go) (order.Resume patience) (reply.Resumed became)
  resumed_so patience after refuses resumes told_after enters through tried placed =
      let so = through_shown ident.shape unchanged_part old now became let_go None after through in record {
        made = so.0;
        before = None;
        after = after;
        obeys = (refuses, (resumes, so.1, tried_shown ident.shape unchanged_part (least_tries patience) so.0 old now became let_go so.2 tried));
        told_before = tt;
        told_after = told_after;
        adds = (enters, so.2);
        section = tt;
        place = placed;
      }

-- The work of a submission.
module _ (ident : ServiceId) (count : ℕ) (its : Submission) (planned : PlannedCrash) (life : ℕ) (now : Session) (let_go : Option SeatView) where
  abbrev begun_by : SessionWork → Session
  begun_by work = record { value = work_holding work; planned = planned; life = life }

  repeated_so : (ready : SeatView) (became : JobOutcome) → IsSubmitWork ident.shape its (Repeat ready) → ThreadRepeatEffect ident.shape ready now.value became
      → WorkWithinPlan ident.shape (submit_lead (Ready ready) its.job) (begun_by (Repeat ready)) now became let_go → ThreadOrderExecution ident count (stand_change (begun_by (Repeat ready)) now let_go) (order.Submit its) (reply.Submitted became)
  repeated_so ready (outcome.Receipt receipt) (some, number) (same, last, is_last) through =
      submitted_so ident count (begun_by (Repeat ready)) now (outcome.Receipt receipt) let_go its (Some receipt) (Some receipt)
      (sym (last_repeated ident.shape ready.part.private.begun its some number))
      (rw (eq-eqb its.number ready.part.private.begun number) (ap (λ (value : Holding). holding_session (Some receipt) value) same, refl)) last
      (let P : Holding → Type 0 = λ value. IsShownReceipt value (Some receipt) in subst P (sym same) last)
      (rw (eq-eqb its.number ready.part.private.begun number) (same, last, is_last)) through tt tt
  repeated_so ready outcome.Withdrawn (some, number) (same, last) through =
      submitted_so ident count (begun_by (Repeat ready)) now outcome.Withdrawn let_go its None None (sym (last_repeated ident.shape ready.part.private.begun its some number))
      (rw (eq-eqb its.number ready.part.private.begun number) (ap (λ (value : Holding). holding_session None value) same, refl)) tt tt
      (rw (eq-eqb its.number ready.part.private.begun number) (same, last)) through tt tt
  repeated_so ready outcome.Waiting asked repeats through = absurd repeats
  repeated_so ready outcome.Fell asked repeats through = absurd repeats
  repeated_so ready (outcome.Inside token) asked repeats through = absurd repeats

  module _ (became : JobOutcome) where
    posted_so : (ready : SeatView) → its.number ≡ ready.part.private.begun + 1 → job_refusal ident.shape ready.part.private.begun its.job ≡ None
        → ThreadJobEffect (stand_next_job ready its.job) ready.part.entries now.value became → WorkWithinPlan ident.shape (submit_lead (Ready ready) its.job) (record { value = Ready ready; planned = planned; life = life }) now became let_go
        → ThreadWaitsAfterTries (least_tries its.patience) ready.part.steps now.value became → ThreadOrderExecution ident count (stand_change (record { value = Ready ready; planned = planned; life = life }) now let_go) (order.Submit its) (reply.Submitted became)
    posted_so ready next none works through tried =
        let so = works_shown (stand_next_job ready its.job) ready.part.entries now.value became works in
        let other : (its.number == ready.part.private.begun) ≡ false = ne_eqb its.number ready.part.private.begun (omega (arith, next)) in
        submitted_so ident count (record { value = Ready ready; planned = planned; life = life }) now became let_go its None so.0
        (sym (next_posted ident.shape ready.part.private.begun its next ∙ none)) (rw other so.1) tt so.2 (rw other so.3) through tried tt

    module _ (start : SeatView) (pending : PendingJobRefusal start.part.private.begun start.part.draft its None) (goes : ThreadPendingJobEffect start now.value became) where
      abbrev enters_pending : Option Job → Type 0
      enters_pending draft = AppendsJobEntry start.part.entries (draft_script draft) now.value became

      waited_so : WorkWithinPlan ident.shape unchanged_part (record { value = Climb start; planned = planned; life = life }) now became let_go → ThreadWaitsAfterTries (least_tries its.patience) start.part.steps now.value became
          → ThreadOrderExecution ident count (stand_change (record { value = Climb start; planned = planned; life = life }) now let_go) (order.Submit its) (reply.Submitted became)
      waited_so through tried =
          let so = goes_shown start now.value became goes in
          submitted_so ident count (record { value = Climb start; planned = planned; life = life }) now became let_go its None so.0 pending so.1 tt so.2 (subst enters_pending pending.1 so.3) through tried tt

      inside_so : WorkWithinPlan ident.shape unchanged_part (record { value = Held start; planned = planned; life = life }) now became let_go → ThreadWaitsAfterTries (least_tries its.patience) start.part.steps now.value became
          → HasKnownPlace (Held start) became → ThreadOrderExecution ident count (stand_change (record { value = Held start; planned = planned; life = life }) now let_go) (order.Submit its) (reply.Submitted became)
      inside_so through tried placed =
          let so = goes_shown start now.value became goes in
          submitted_so ident count (record { value = Held start; planned = planned; life = life }) now became let_go its None so.0 pending so.1 tt so.2 (subst enters_pending pending.1 so.3) through tried placed

    work_submitted : (work : SessionWork) → IsSubmitWork ident.shape its work → WorkEffect ident.shape work now.value became
        → WorkWithinPlan ident.shape (submit_lead (work_holding work) its.job) (begun_by work) now became let_go → ThreadWaitsAfterTries (least_tries its.patience) (holding_steps (work_holding work)) now.value became
        → HasKnownPlace (work_holding work) became → ThreadOrderExecution ident count (stand_change (begun_by work) now let_go) (order.Submit its) (reply.Submitted became)
    work_submitted (Repeat ready) asked makes through tried placed = repeated_so ready became asked makes through
    work_submitted (Post admitted tries until.Finished) (next, same, none) makes through tried placed =
        let P : Job → Type 0 = λ job. ThreadJobEffect (stand_next_job admitted.ready job) admitted.ready.part.entries now.value became in
        posted_so admitted.ready next none (subst P same makes) through tried
    work_submitted (GoIn climb tries until.Finished) asked makes through tried placed = waited_so climb asked makes through tried
    work_submitted (GoOn held) asked makes through tried placed = inside_so held asked makes through tried placed
    work_submitted (Post admitted tries until.Inside) asked makes through tried placed = absurd asked
    work_submitted (GoIn climb tries until.Inside) asked makes through tried placed = absurd asked
    work_submitted (Stay held) asked makes through tried placed = absurd asked

-- ENTER
arrives_shown : (task : WorkerJob) (before : List Entry) (value : Holding) (became : JobOutcome) → ThreadEnterEffect task before value became
    → sight.EnterPendingEffect (waiting_worker task) (holding_session None value) became × EntersWithoutEntry before value became
arrives_shown task before (Held held) (outcome.Inside token) (awaits, entered, is) = (
  (same_pending held.part.worker task.worker held.part.private.begun task.number held.part.draft (Some task.job) awaits.own awaits.number awaits.draft, is),
  (awaits.entries, entered),
)
arrives_shown task before (Climb climb) outcome.Waiting awaits = (
  same_pending climb.part.worker task.worker climb.part.private.begun task.number climb.part.draft (Some task.job) awaits.own awaits.number awaits.draft,
  awaits.entries,
)
arrives_shown task before Empty outcome.Fell fell = (tt, tt)
arrives_shown task before value became arrives = absurd arrives

inside_shown : (start : SeatView) (value : Holding) (became : JobOutcome) → ThreadEnterPendingEffect start value became
    → sight.EnterPendingEffect (pending_worker_of start) (holding_session None value) became × EntersWithoutEntry start.part.entries value became
inside_shown start (Held held) (outcome.Inside token) (still, entered, is) = (
  (
    same_pending held.part.worker start.part.worker held.part.private.begun start.part.private.begun held.part.draft start.part.draft still.own still.number still.draft,
    is,
  ),
  (still.entries, entered),
)
inside_shown start (Climb climb) outcome.Waiting still = (
  same_pending climb.part.worker start.part.worker climb.part.private.begun start.part.private.begun climb.part.draft start.part.draft still.own still.number still.draft,
  still.entries,
)
inside_shown start Empty outcome.Fell fell = (tt, tt)
inside_shown start value became goes = absurd goes

module _ (ident : ServiceId) (count : ℕ) (its : Submission) (old now : Session) (became : JobOutcome) (let_go : Option SeatView) where
  entered_so : (before after : Option Receipt) → SubmitRefusal ident.shape (holding_session before old.value) its None
      → ((made : ℕ) → OrderOwnSteps ident.shape (submit_lead old.value its.job) made (stand_change old now let_go) became → sight.EnterOrderEffect made (holding_session before old.value) its (holding_session after now.value) became)
      → IsShownReceipt old.value before → IsShownReceipt now.value after → EnterEntries ident.shape old.value its now.value became
      → WorkWithinPlan ident.shape (submit_lead old.value its.job) old now became let_go → ThreadWaitsAfterTries (least_tries its.patience) (holding_steps old.value) now.value became
      → TellsWorkerSection ident.shape now.value (reply.Entered became) → HasKnownPlace old.value became → ThreadOrderExecution ident count (stand_change old now let_go) (order.Enter its) (reply.Entered became)
  entered_so before after refuses enters told_before told_after adds through tried told placed =
      let so = through_shown ident.shape (submit_lead old.value its.job) old now became let_go before after through in record {
        made = so.0;
        before = before;
        after = after;
        obeys = (refuses, (enters so.0 so.2, so.1, tried_shown ident.shape (submit_lead old.value its.job) (least_tries its.patience) so.0 old now became let_go so.2 tried));
        told_before = told_before;
        told_after = told_after;
        adds = (adds, so.2);
        section = told;
        place = placed;
      }

module _ (ident : ServiceId) (count : ℕ) (its : Submission) (planned : PlannedCrash) (life : ℕ) (now : Session) (let_go : Option SeatView) where
  abbrev starts_by : Holding → Session
  starts_by value = record { value = value; planned = planned; life = life }

  repeated_inside : (ready : SeatView) (became : JobOutcome) → IsSubmitWork ident.shape its (Repeat ready) → ThreadRepeatEffect ident.shape ready now.value became
      → WorkWithinPlan ident.shape (submit_lead (Ready ready) its.job) (starts_by (Ready ready)) now became let_go → TellsWorkerSection ident.shape now.value (reply.Entered became)
      → ThreadOrderExecution ident count (stand_change (starts_by (Ready ready)) now let_go) (order.Enter its) (reply.Entered became)
  repeated_inside ready (outcome.Receipt receipt) (some, number) (same, last, is_last) through told =
      entered_so ident count its (starts_by (Ready ready)) now (outcome.Receipt receipt) let_go (Some receipt) (Some receipt)
      (sym (last_repeated ident.shape ready.part.private.begun its some number))
      (λ made walked. rw (eq-eqb its.number ready.part.private.begun number) (ap (λ (value : Holding). holding_session (Some receipt) value) same, refl)) last
      (let P : Holding → Type 0 = λ value. IsShownReceipt value (Some receipt) in subst P (sym same) last)
      (rw (eq-eqb its.number ready.part.private.begun number) (same, last, is_last)) through tt told tt
  repeated_inside ready outcome.Withdrawn (some, number) (same, last) through told =
      entered_so ident count its (starts_by (Ready ready)) now outcome.Withdrawn let_go None None (sym (last_repeated ident.shape ready.part.private.begun its some number))
      (λ made walked. rw (eq-eqb its.number ready.part.private.begun number) (ap (λ (value : Holding). holding_session None value) same, refl)) tt tt
      (rw (eq-eqb its.number ready.part.private.begun number) (same, last)) through tt told tt
  repeated_inside ready outcome.Waiting asked repeats through told = absurd repeats
  repeated_inside ready outcome.Fell asked repeats through told = absurd repeats
  repeated_inside ready (outcome.Inside token) asked repeats through told = absurd repeats

  module _ (became : JobOutcome) where
    posted_inside : (ready : SeatView) → its.number ≡ ready.part.private.begun + 1 → job_refusal ident.shape ready.part.private.begun its.job ≡ None
        → ThreadEnterEffect (stand_next_job ready its.job) ready.part.entries now.value became → WorkWithinPlan ident.shape (submit_lead (Ready ready) its.job) (starts_by (Ready ready)) now became let_go
        → ThreadWaitsAfterTries (least_tries its.patience) ready.part.steps now.value became → TellsWorkerSection ident.shape now.value (reply.Entered became)
        → ThreadOrderExecution ident count (stand_change (starts_by (Ready ready)) now let_go) (order.Enter its) (reply.Entered became)
    posted_inside ready next none arrives through tried told =
        let so = arrives_shown (stand_next_job ready its.job) ready.part.entries now.value became arrives in
        let other : (its.number == ready.part.private.begun) ≡ false = ne_eqb its.number ready.part.private.begun (omega (arith, next)) in
        entered_so ident count its (starts_by (Ready ready)) now became let_go None None (sym (next_posted ident.shape ready.part.private.begun its next ∙ none))
        (λ made walked. rw other so.0) tt tt (rw other so.1) through tried told tt

    waited_inside : (climb : SeatView) → PendingJobRefusal climb.part.private.begun climb.part.draft its None → ThreadEnterPendingEffect climb now.value became
        → WorkWithinPlan ident.shape unchanged_part (starts_by (Climb climb)) now became let_go → ThreadWaitsAfterTries (least_tries its.patience) climb.part.steps now.value became
        → TellsWorkerSection ident.shape now.value (reply.Entered became) → ThreadOrderExecution ident count (stand_change (starts_by (Climb climb)) now let_go) (order.Enter its) (reply.Entered became)
    waited_inside climb pending goes through tried told =
        let so = inside_shown climb now.value became goes in
        entered_so ident count its (starts_by (Climb climb)) now became let_go None None pending (λ made walked. so.0) tt tt so.1 through tried told tt

  -- A worker that was inside only reads its section.
  module _ (held : SeatView) (lock section : ℕ) (same : now.value ≡ Held (seat_with_section held section)) where
    abbrev token_of : FencingToken
    token_of = worker_token held lock section

    no_step : (made : ℕ) → OrderOwnSteps ident.shape unchanged_part made (stand_change (starts_by (Held held)) now let_go) (outcome.Inside token_of) → made ≡ 0
    no_step made walked =
        let P : Holding → Type 0 = λ value. OwnStepsThenLoad ident.shape unchanged_part (part_when_told (outcome.Inside token_of)) (Some held) (held_worker value) made in
        let went = subst P same walked.0 in let steps = went.steps in omega (arith, steps)

    stayed_inside : PendingJobRefusal held.part.private.begun held.part.draft its None → WorkWithinPlan ident.shape unchanged_part (starts_by (Held held)) now (outcome.Inside token_of) let_go
        → TellsWorkerSection ident.shape now.value (reply.Entered (outcome.Inside token_of))
        → ThreadOrderExecution ident count (stand_change (starts_by (Held held)) now let_go) (order.Enter its) (reply.Entered (outcome.Inside token_of))
    stayed_inside pending through told =
        entered_so ident count its (starts_by (Held held)) now (outcome.Inside token_of) let_go None None pending
        (λ made walked. (no_step made walked, ap (λ (value : Holding). holding_session None value) same, (refl, refl))) tt tt same through tt told tt

  work_entered : (became : JobOutcome) (work : SessionWork) → IsSubmitWork ident.shape its work → WorkEffect ident.shape (work_until_inside work) now.value became
      → WorkWithinPlan ident.shape (submit_lead (work_holding work) its.job) (starts_by (work_holding work)) now became let_go → ThreadWaitsAfterTries (least_tries its.patience) (holding_steps (work_holding work)) now.value became
      → TellsWorkerSection ident.shape now.value (reply.Entered became) → ThreadOrderExecution ident count (stand_change (starts_by (work_holding work)) now let_go) (order.Enter its) (reply.Entered became)
  work_entered became (Repeat ready) asked makes through tried told = repeated_inside ready became asked makes through told
  work_entered became (Post admitted tries until.Finished) (next, same, none) makes through tried told =
      let P : Job → Type 0 = λ job. ThreadEnterEffect (stand_next_job admitted.ready job) admitted.ready.part.entries now.value became in
      posted_inside became admitted.ready next none (subst P same makes) through tried told
  work_entered became (GoIn climb tries until.Finished) asked makes through tried told = waited_inside became climb asked makes through tried told
  work_entered became (GoOn held) asked (lock, section, same, is) through tried told =
      let P : JobOutcome → Type 0 = λ o. WorkWithinPlan ident.shape unchanged_part (starts_by (Held held)) now o let_go in
      let T : JobOutcome → Type 0 = λ o. TellsWorkerSection ident.shape now.value (reply.Entered o) in
      let Q : JobOutcome → Type 0 = λ o. ThreadOrderExecution ident count (stand_change (starts_by (Held held)) now let_go) (order.Enter its) (reply.Entered o) in
      subst Q (sym is) (stayed_inside held lock section same asked (subst P is through) (subst T is told))
  work_entered became (Post admitted tries until.Inside) asked makes through tried told = absurd asked
  work_entered became (GoIn climb tries until.Inside) asked makes through tried told = absurd asked
  work_entered became (Stay held) asked makes through tried told = absurd asked

pub entered : (ident : ServiceId) (count : ℕ) (work : SessionWork) (old now : Session) (became : JobOutcome) (let_go : Option SeatView) (its : Submission) → work_holding work ≡ old.value → IsSubmitWork ident.shape its work
    → WorkEffect ident.shape (work_until_inside work) now.value became
    → WorkWithinPlan ident.shape (work_lead (work_until_inside work)) (record { value = work_holding (work_until_inside work); planned = old.planned; life = old.life }) now became let_go
    → ThreadWaitsAfterTries (least_tries its.patience) (holding_steps (work_holding work)) now.value became → TellsWorkerSection ident.shape now.value (reply.Entered became)
    → ThreadOrderExecution ident count (stand_change old now let_go) (order.Enter its) (reply.Entered became)
entered ident count work old now became let_go its same asked makes through tried told =
    let P : Holding → Type 0 = λ value. ThreadOrderExecution ident count (stand_change (record { value = value; planned = old.planned; life = old.life }) now let_go) (order.Enter its) (reply.Entered became) in
    subst P same (work_entered ident count its old.planned old.life now let_go became work asked makes (led_inside ident.shape its work old.planned old.life now became let_go asked makes through) tried told)

-- COMMIT: a worker that owned its lock does not wait.
commits_of : (start : PendingWorker) (session : shown.Session) (became : JobOutcome) → sight.PendingJobEffect start session became → (became ≡ outcome.Waiting → ⊥) → sight.CommitOrderEffect (at.Held start) session became
commits_of start (at.Ready ready) (outcome.Receipt receipt) goes never = goes
commits_of start (at.Climb pending) outcome.Waiting goes never = absurd (never refl)
commits_of start at.Nobody outcome.Fell goes never = tt
commits_of start session became goes never = absurd goes

never_waits : (steps : ℕ) (value : Holding) (became : JobOutcome) → ((most : ℕ) → ThreadWaitsAfterTries most steps value became) → became ≡ outcome.Waiting → ⊥
never_waits steps value became tried waits =
    let P : JobOutcome → Type 0 = λ o. ThreadWaitsAfterTries (holding_steps value + 1) steps value o in
    let some = subst P waits (tried (holding_steps value + 1)) in omega (arith, some)

pub committed : (ident : ServiceId) (count : ℕ) (held : SeatView) (planned : PlannedCrash) (life : ℕ) (now : Session) (became : JobOutcome) (let_go : Option SeatView) → ThreadPendingJobEffect held now.value became
    → WorkWithinPlan ident.shape unchanged_part (record { value = Held held; planned = planned; life = life }) now became let_go → ((most : ℕ) → ThreadWaitsAfterTries most held.part.steps now.value became)
    → HasKnownPlace (Held held) became → ThreadOrderExecution ident count (stand_change (record { value = Held held; planned = planned; life = life }) now let_go) order.Commit (reply.Committed became)
committed ident count held planned life now became let_go goes through tried placed =
    let so = goes_shown held now.value became goes in
    let walk = through_shown ident.shape unchanged_part (record { value = Held held; planned = planned; life = life }) now became let_go None so.0 through in record {
      made = walk.0;
      before = None;
      after = so.0;
      obeys = (refl, (commits_of (pending_worker_of held) (holding_session so.0 now.value) became so.1 (never_waits held.part.steps now.value became tried), walk.1));
      told_before = tt;
      told_after = so.2;
      adds = (so.3, walk.2);
      section = tt;
      place = placed;
    }

-- The work of an order that continues a job.
module _ (ident : ServiceId) (count : ℕ) (planned : PlannedCrash) (life : ℕ) (now : Session) (let_go : Option SeatView) (became : JobOutcome) where
  abbrev stands_with : SessionWork → Session
  stands_with work = record { value = work_holding work; planned = planned; life = life }

  work_resumed : (patience : Patience) (work : SessionWork) → IsResumeWork work → WorkEffect ident.shape work now.value became → WorkWithinPlan ident.shape unchanged_part (stands_with work) now became let_go
      → ThreadWaitsAfterTries (least_tries patience) (holding_steps (work_holding work)) now.value became → HasKnownPlace (work_holding work) became
      → ThreadOrderExecution ident count (stand_change (stands_with work) now let_go) (order.Resume patience) (reply.Resumed became)
  work_resumed patience (Repeat ready) asked makes through tried placed = absurd asked
  work_resumed patience (Post admitted given until.Finished) asked makes through tried placed = absurd asked
  work_resumed patience (Post admitted given until.Inside) asked makes through tried placed = absurd asked
  work_resumed patience (GoIn climb given until.Inside) asked makes through tried placed = absurd asked
  work_resumed patience (Stay held) asked makes through tried placed = absurd asked
  work_resumed patience (GoIn climb given until.Finished) asked makes through tried placed =
      let so = goes_shown climb now.value became makes in resumed_so ident count (stands_with (GoIn climb given until.Finished)) now became let_go patience so.0 refl so.1 so.2 so.3 through tried tt
  work_resumed patience (GoOn held) asked makes through tried placed =
      let so = goes_shown held now.value became makes in resumed_so ident count (stands_with (GoOn held)) now became let_go patience so.0 refl so.1 so.2 so.3 through tried placed

-- An order with work, whatever the session held.
module _ (ident : ServiceId) (count : ℕ) (work : SessionWork) (old now : Session) (became : JobOutcome) (let_go : Option SeatView) (same : work_holding work ≡ old.value)
    (makes : WorkEffect ident.shape work now.value became) (placed : HasKnownPlace (work_holding work) became) (through : WorkWithinPlan ident.shape (work_lead work) (record { value = work_holding work; planned = old.planned; life = old.life }) now became let_go) where
  pub submitted : (its : Submission) → IsSubmitWork ident.shape its work → ThreadWaitsAfterTries (least_tries its.patience) (holding_steps (work_holding work)) now.value became
      → ThreadOrderExecution ident count (stand_change old now let_go) (order.Submit its) (reply.Submitted became)
  submitted its asked tried =
      let P : Holding → Type 0 = λ value. ThreadOrderExecution ident count (stand_change (record { value = value; planned = old.planned; life = old.life }) now let_go) (order.Submit its) (reply.Submitted became) in
      subst P same (work_submitted ident count its old.planned old.life now let_go became work asked makes (led_so ident.shape its work old.planned old.life now became let_go asked makes through) tried placed)

  pub resumed : (patience : Patience) → IsResumeWork work → ThreadWaitsAfterTries (least_tries patience) (holding_steps (work_holding work)) now.value became → ThreadOrderExecution ident count (stand_change old now let_go) (order.Resume patience) (reply.Resumed became)
  resumed patience asked tried =
      let P : Holding → Type 0 = λ value. ThreadOrderExecution ident count (stand_change (record { value = value; planned = old.planned; life = old.life }) now let_go) (order.Resume patience) (reply.Resumed became) in
      subst P same (work_resumed ident count old.planned old.life now let_go became patience work asked makes
      (led_onward ident.shape work (record { value = work_holding work; planned = old.planned; life = old.life }) now became let_go asked through) tried placed)

pub withdraw_fell : (ident : ServiceId) (count : ℕ) (climb : SeatView) (planned : PlannedCrash) (life : ℕ) (now : Session) (let_go : Option SeatView)
    → WorkWithinPlan ident.shape withdrawing_part (record { value = Climb climb; planned = planned; life = life }) now outcome.Fell let_go
    → ThreadOrderExecution ident count (stand_change (record { value = Climb climb; planned = planned; life = life }) now let_go) order.Withdraw reply.WithdrawFell
withdraw_fell ident count climb planned life now let_go through =
    let so = through_shown ident.shape withdrawing_part (record { value = Climb climb; planned = planned; life = life }) now outcome.Fell let_go None None through in
    record { made = so.0; before = None; after = None; obeys = (refl, so.1); told_before = tt; told_after = tt; adds = so.2; section = tt; place = tt }

-- The section of a token, in the words of the protocol.
pub told_section : (shape : Shape) (value : Holding) (answer : SessionReply) → TellsWorkerSection shape value answer
    → sight.TellsSection (WorkerHasSection shape (held_worker value)) (holding_session None value) answer
told_section shape value (reply.Entered became) told = told
told_section shape Empty answer told = tt
told_section shape (Ready ready) answer told = tt
told_section shape (Climb climb) answer told = tt
told_section shape (Held held) answer told = tt
