-- A worker whose job was driven.
use Rattle.std.proofs.lemmas.Option.{same_Some}
use Rattle.std.proofs.Common.{◌≡◌, ℕ, ◌+◌, List, [], ◌-◌, ◌≤◌, Result, Ok, Err, sym, subst, ◌∙◌, refl, arith}
use Rattle.std.specs.Prelude.{false, true, Option, Some, None}
use Rattle.rme_words.specs.declared.shape.Shape.{Shape}
use Rattle.rme_script.specs.declared.job.Job.{Job}
use Rattle.rme_program.specs.declared.note.Entry.{Entry}
use Rattle.rme_program.specs.declared.note.Receipt.{Receipt}
use Rattle.rme_session_protocol.specs.SessionViews.{WorkerJob}
use Rattle.rme_service_steps.specs.declared.seat_record.Part.{Part}
use Rattle.rme_service_steps.specs.Parts.{unchanged_part}
use Rattle.rme_service_steps.specs.Parts.{submitted_part as handed}
use Rattle.rme_service_steps.specs.SeatViews.{ServiceId, SeatView}
use Rattle.rme_table.specs.Driving.{DriveOutcome, WaitsAfterAllSweeps, DriveSteps, FinishesJobNow as FinishedJob, GateLetsPass, GateStopsInside, GateWatches}
use Rattle.rme_table.specs.declared.driving.Driven.{Driven}
use Rattle.rme_table.specs.declared.driving.Driven.TheVariants as driven
use Rattle.rme_table.specs.declared.driving.SweepTries.{SweepTries}
use Rattle.rme_session_protocol.specs.declared.reply.JobOutcome.{JobOutcome}
use Rattle.rme_session_protocol.specs.declared.reply.JobOutcome.TheVariants as outcome
use Rattle.rme_session_protocol.specs.declared.order.Submission.{Submission}
use Rattle.rme_session_protocol.specs.PlannedCrashes.{planned_after}
use Rattle.rme_session_protocol.proofs.Counting.{leaves_none}
use Rattle.rme_session_threads.specs.CrashPlans.{countdown_tally}
use Rattle.rme_session_threads.specs.Stands.{HasSlot, IsValidWorkResult, held_worker}
use Rattle.rme_session_threads.specs.SessionWorks.{HasWorkTries, IsResumeWork, IsStoppedInside, IsSubmitWork, WorkHasKnownPlace, WorkTellsSection, WorkWithinPlan, WorkEffect, WorkSettlement, CountdownSpares, WorkSpendsCountdown, driven_result, work_holding, work_lead, work_until_inside}
use Rattle.rme_session_threads.specs.JobOutcomes.{AwaitsLock, HasFinishedJob, HasKnownPlace, StaysInside, TellsWorkerSection, part_when_told, WorkOnNextJob, WorkOnPendingJob, StillAwaitsLock, stand_next_job, stand_pending_job, WorkWaitsAfterTries, WorkResultSatisfies, ThreadEnterPendingEffect, ThreadPendingJobEffect, PlanSpares, ThreadWaitsAfterTries, IsNotFallen, ThreadRepeatEffect, OwnStepsBetween, submit_lead}
use Rattle.rme_session_protocol.specs.declared.reply.SessionReply.TheVariants as reply
use Rattle.rme_session_protocol.specs.declared.planned_crash.Countdown.{Countdown}
use Rattle.rme_session_protocol.specs.declared.planned_crash.Countdown.TheVariants.{Runs, Fallen}
use Rattle.rme_session_protocol.specs.declared.planned_crash.PlannedCrash.{PlannedCrash}
use Rattle.rme_session_threads.specs.declared.stand.Holding.{Holding}
use Rattle.rme_session_threads.specs.declared.stand.Holding.TheVariants.{Empty, Ready, Climb, Held}
use Rattle.rme_session_threads.specs.declared.work.WorkGoal.{WorkGoal}
use Rattle.rme_session_threads.specs.declared.stand.Stand.{Stand as Session}
use Rattle.rme_session_threads.specs.declared.work.SessionWork.{SessionWork}
use Rattle.rme_session_threads.specs.declared.work.SessionWork.TheVariants.{Repeat, Post, GoIn, GoOn, Stay}
use Rattle.rme_session_threads.specs.declared.work.WorkGoal.TheVariants as until
use Rattle.rme_session_threads.proofs.Planning.{fallen, spared, spares_loaded, stayed}

-- The session after a drive whose gate admits every worker, and so never stops one.
module _ (shape : Shape) (start : SeatView) (old now : Countdown) (lock section : ℕ) where
  done_did : (ready : SeatView) (receipt : Receipt) → DriveSteps shape start ready (countdown_tally old) (countdown_tally now) 0 → FinishedJob start ready receipt
      → ready.part.private.begun ≡ start.part.private.begun → ThreadPendingJobEffect start (Ready ready) (outcome.Receipt receipt)
  done_did ready receipt goes its number = (
    its.job,
    its.draft,
    (
      record { receipt = receipt; script = its.job.script },
      record {
        is_of = record { by = its.by; number = its.number; lock = its.lock; script = refl };
        entries = its.entries;
        own = goes.own;
        number = number;
      },
      refl,
    ),
  )

  pub driven_did : (drive : Driven) → DriveOutcome shape false start (countdown_tally old) (countdown_tally now) drive → GateLetsPass drive → WorkResultSatisfies (driven_result lock section drive) (ThreadPendingJobEffect start)
  driven_did (driven.Done ready receipt) (goes, its, number) passes = (done_did ready receipt goes its number, tt)
  driven_did (driven.Waits climb) (goes, still) passes = (record { draft = still.draft; entries = still.entries; own = goes.own; number = still.number }, tt)
  driven_did (driven.Stopped held) drives passes = absurd passes
  driven_did (driven.Fell down) drives passes = tt

  has_slot : (ident : ServiceId) (count : ℕ) (falls : ℕ) (later : SeatView) → DriveSteps shape start later (countdown_tally old) (countdown_tally now) falls → HasSlot ident count start → HasSlot ident count later
  has_slot ident count falls later goes slot = record { ident_is = goes.ident ∙ slot.ident_is; slot = rw goes.own slot.slot }

  pub driven_ours : (ident : ServiceId) (drive : Driven) → DriveOutcome shape false start (countdown_tally old) (countdown_tally now) drive → GateLetsPass drive
      → (count : ℕ) → HasSlot ident count start → IsValidWorkResult ident count (driven_result lock section drive)
  driven_ours ident (driven.Done ready receipt) (goes, its, number) passes count slot = has_slot ident count 0 ready goes slot
  driven_ours ident (driven.Waits climb) (goes, still) passes count slot = has_slot ident count 0 climb goes slot
  driven_ours ident (driven.Stopped held) drives passes count slot = absurd passes
  driven_ours ident (driven.Fell down) goes passes count slot = has_slot ident count 1 down goes slot

  pub driven_plan : (drive : Driven) → DriveOutcome shape false start (countdown_tally old) (countdown_tally now) drive → GateLetsPass drive → WorkSpendsCountdown shape unchanged_part old (Some start) now (driven_result lock section drive)
  driven_plan (driven.Done ready receipt) (goes, its, number) passes = spared shape unchanged_part start ready old now goes.walks goes.ident goes.own
  driven_plan (driven.Waits climb) (goes, still) passes = spared shape unchanged_part start climb old now goes.walks goes.ident goes.own
  driven_plan (driven.Stopped held) drives passes = absurd passes
  driven_plan (driven.Fell down) goes passes = fallen shape unchanged_part start down old now goes.walks goes.ident goes.own

-- With a gate that admits no worker, no job is finished.
abbrev pub IsBarred : Driven → Type 0
IsBarred (driven.Done ready receipt) = ⊥
IsBarred drive = Unit {0}

pub barred : (told : ℕ → ℕ → ℕ → Type 0) (shape : Shape) (worker : ℕ) (drive : Driven) → GateWatches (λ _ _ answer. answer ≡ false) told shape false worker drive → IsBarred drive
barred told shape worker (driven.Done ready receipt) (asked, told_so) = let bad : true ≡ false = (asked refl).asked in cc
barred told shape worker (driven.Waits climb) watches = tt
barred told shape worker (driven.Stopped held) watches = tt
barred told shape worker (driven.Fell down) watches = tt

-- A worker that was stopped is one of the service, and before its section.
pub stopped_inside : (shape : Shape) (start : SeatView) (old now : Countdown) (ident : ServiceId) (drive : Driven) → DriveOutcome shape false start (countdown_tally old) (countdown_tally now) drive → GateStopsInside drive
    → start.ident ≡ ident → IsStoppedInside ident drive
stopped_inside shape start old now ident (driven.Done ready receipt) drives stops ours = tt
stopped_inside shape start old now ident (driven.Waits climb) drives stops ours = tt
stopped_inside shape start old now ident (driven.Stopped held) (goes, still) (entered, pending) ours = (goes.ident ∙ ours, pending)
stopped_inside shape start old now ident (driven.Fell down) drives stops ours = tt

-- The session after a drive until the worker is inside.
module _ (shape : Shape) (start : SeatView) (old now : Countdown) (lock section : ℕ) where
  pub arrived_did : (drive : Driven) → DriveOutcome shape false start (countdown_tally old) (countdown_tally now) drive → IsBarred drive → GateStopsInside drive → WorkResultSatisfies (driven_result lock section drive) (ThreadEnterPendingEffect start)
  arrived_did (driven.Done ready receipt) drives bars stops = absurd bars
  arrived_did (driven.Waits climb) (goes, still) bars stops = (record { draft = still.draft; entries = still.entries; own = goes.own; number = still.number }, tt)
  arrived_did (driven.Stopped held) (goes, still) bars (entered, pending) =
      ((record { draft = still.draft; entries = still.entries; own = goes.own; number = still.number }, entered, still.number), tt)
  arrived_did (driven.Fell down) drives bars stops = tt

  pub arrived_ours : (ident : ServiceId) (drive : Driven) → DriveOutcome shape false start (countdown_tally old) (countdown_tally now) drive → IsBarred drive → GateStopsInside drive
      → (count : ℕ) → HasSlot ident count start → IsValidWorkResult ident count (driven_result lock section drive)
  arrived_ours ident (driven.Done ready receipt) drives bars stops count slot = absurd bars
  arrived_ours ident (driven.Waits climb) (goes, still) bars stops count slot = has_slot shape start old now lock section ident count 0 climb goes slot
  arrived_ours ident (driven.Stopped held) (goes, still) bars (entered, pending) count slot =
      let inside = has_slot shape start old now lock section ident count 0 held goes slot in (record { ident_is = inside.ident_is; slot = inside.slot }, pending)
  arrived_ours ident (driven.Fell down) goes bars stops count slot = has_slot shape start old now lock section ident count 1 down goes slot

  pub arrived_plan : (drive : Driven) → DriveOutcome shape false start (countdown_tally old) (countdown_tally now) drive → IsBarred drive → WorkSpendsCountdown shape unchanged_part old (Some start) now (driven_result lock section drive)
  arrived_plan (driven.Done ready receipt) drives bars = absurd bars
  arrived_plan (driven.Waits climb) (goes, still) bars = spared shape unchanged_part start climb old now goes.walks goes.ident goes.own
  arrived_plan (driven.Stopped held) (goes, still) bars =
      spares_loaded shape unchanged_part start held section old now (spared shape unchanged_part start held old now goes.walks goes.ident goes.own)
  arrived_plan (driven.Fell down) goes bars = fallen shape unchanged_part start down old now goes.walks goes.ident goes.own

pub arrived_tried : (start : SeatView) (before after : SweepTries) (lock section : ℕ) (drive : Driven) → WaitsAfterAllSweeps start before after drive → IsBarred drive
    → WorkWaitsAfterTries (before.most - before.blocked) start.part.steps (driven_result lock section drive)
arrived_tried start before after lock section (driven.Done ready receipt) exhausts bars = absurd bars
arrived_tried start before after lock section (driven.Waits climb) exhausts bars = exhausts.steps
arrived_tried start before after lock section (driven.Stopped held) exhausts bars = tt
arrived_tried start before after lock section (driven.Fell down) exhausts bars = tt

-- The session afterwards: a worker that did not crash was spared.
module _ (shape : Shape) (lead : Part → Part) where
  left_up : (old now : Session) (its : JobOutcome) (let_go : Option SeatView) → IsNotFallen its → let_go ≡ None
      → PlanSpares shape lead (part_when_told its) old.planned (held_worker old.value) now.planned (held_worker now.value) → WorkWithinPlan shape lead old now its let_go
  left_up old now (outcome.Receipt receipt) let_go up none spares = (spares, none)
  left_up old now outcome.Withdrawn let_go up none spares = (spares, none)
  left_up old now outcome.Waiting let_go up none spares = (spares, none)
  left_up old now (outcome.Inside token) let_go up none spares = (spares, none)
  left_up old now outcome.Fell let_go up none spares = absurd up

  pub spared_by : (learns : Part → Part) (old : PlannedCrash) (start : Option SeatView) (now : Countdown) (end : Option SeatView) → CountdownSpares shape lead learns (Runs old) start now end
      → PlanSpares shape lead learns old start (planned_after now) end
  spared_by learns old start (Runs now) end spares = spares
  spared_by learns old start Fallen end spares = absurd spares

  pub left_so : (life : ℕ) (old : Session) (Has : Holding → JobOutcome → Type 0) (countdown : Countdown) (worked : Result (Holding × JobOutcome) SeatView) (now : Session) (its : JobOutcome) (let_go : Option SeatView)
      → WorkResultSatisfies worked Has → WorkSpendsCountdown shape lead (Runs old.planned) (held_worker old.value) countdown worked → WorkSettlement worked (planned_after countdown) life now its let_go
      → Has now.value its × WorkWithinPlan shape lead old now its let_go
  left_so life old Has countdown (Ok (value, became)) now its let_go (has, up) spares (now_is, its_is, none) =
      rw (now_is, its_is) (
        has,
        left_up old (record { value = value; planned = planned_after countdown; life = life }) became let_go up none (spared_by (part_when_told became) old.planned (held_worker old.value) countdown (held_worker value) spares),
      )
  left_so life old Has countdown (Err down) now its let_go has falls (now_is, its_is, go_is) = rw (now_is, its_is, go_is) (has, (falls, refl))

-- A worker that answers its last number again makes no step, and neither does one that is already inside.
pub spares_none : (shape : Shape) (ready : SeatView) (plan : Countdown) → CountdownSpares shape unchanged_part unchanged_part plan (Some ready) plan (Some ready)
spares_none shape ready (Runs planned) =
    (0, record { ident = refl; own = refl; values = []; walk = refl; found = tt; count = refl; steps = omega arith }, leaves_none planned)
spares_none shape ready Fallen = tt

pub repeats_spares : (shape : Shape) (ready : SeatView) (plan : Countdown) (value : Holding) (became : JobOutcome) → ThreadRepeatEffect shape ready value became
    → CountdownSpares shape unchanged_part (part_when_told became) plan (Some ready) plan (held_worker value)
repeats_spares shape ready plan value (outcome.Receipt receipt) (same, last, is_last) = rw same (spares_none shape ready plan)
repeats_spares shape ready plan value outcome.Withdrawn (same, last) = rw same (spares_none shape ready plan)
repeats_spares shape ready plan value outcome.Waiting repeats = absurd repeats
repeats_spares shape ready plan value outcome.Fell repeats = absurd repeats
repeats_spares shape ready plan value (outcome.Inside token) repeats = absurd repeats

pub stays_spares : (shape : Shape) (held : SeatView) (plan : Countdown) (value : Holding) (became : JobOutcome) → StaysInside held value became
    → CountdownSpares shape unchanged_part (part_when_told became) plan (Some held) plan (held_worker value)
stays_spares shape held plan value became (lock, section, same, is) = rw (same, is) (spares_loaded shape unchanged_part held held section plan plan (spares_none shape held plan))

-- The lead of the work is that of the order; answering the last number again makes no step.
repeated : (shape : Shape) (ready : SeatView) (planned : PlannedCrash) (life : ℕ) (job : Job) (now : Session) (became : JobOutcome) (let_go : Option SeatView) → ThreadRepeatEffect shape ready now.value became
    → WorkWithinPlan shape unchanged_part (record { value = Ready ready; planned = planned; life = life }) now became let_go → WorkWithinPlan shape (handed job) (record { value = Ready ready; planned = planned; life = life }) now became let_go
repeated shape ready planned life job now (outcome.Receipt receipt) let_go (same, last, is_last) ((made, went, left), none) =
    let P : Holding → Type 0 = λ value. OwnStepsBetween shape unchanged_part (Some ready) (held_worker value) made in
    let Q : Holding → Type 0 = λ value. OwnStepsBetween shape (handed job) (Some ready) (held_worker value) made in
    ((made, subst Q (sym same) (stayed shape unchanged_part (handed job) ready made (subst P same went)), left), none)
repeated shape ready planned life job now outcome.Withdrawn let_go (same, last) ((made, went, left), none) =
    let P : Holding → Type 0 = λ value. OwnStepsBetween shape unchanged_part (Some ready) (held_worker value) made in
    let Q : Holding → Type 0 = λ value. OwnStepsBetween shape (handed job) (Some ready) (held_worker value) made in
    ((made, subst Q (sym same) (stayed shape unchanged_part (handed job) ready made (subst P same went)), left), none)
repeated shape ready planned life job now outcome.Waiting let_go repeats left = absurd repeats
repeated shape ready planned life job now outcome.Fell let_go repeats left = absurd repeats
repeated shape ready planned life job now (outcome.Inside token) let_go repeats left = absurd repeats

pub led_so : (shape : Shape) (its : Submission) (work : SessionWork) (planned : PlannedCrash) (life : ℕ) (now : Session) (became : JobOutcome) (let_go : Option SeatView) → IsSubmitWork shape its work
    → WorkEffect shape work now.value became → WorkWithinPlan shape (work_lead work) (record { value = work_holding work; planned = planned; life = life }) now became let_go
    → WorkWithinPlan shape (submit_lead (work_holding work) its.job) (record { value = work_holding work; planned = planned; life = life }) now became let_go
led_so shape its (Repeat ready) planned life now became let_go asked makes left = repeated shape ready planned life its.job now became let_go makes left
led_so shape its (Post admitted tries until.Finished) planned life now became let_go (next, same, none) makes left =
    let P : Job → Type 0 = λ job. WorkWithinPlan shape (handed job) (record { value = Ready admitted.ready; planned = planned; life = life }) now became let_go in subst P same left
led_so shape its (GoIn climb tries until.Finished) planned life now became let_go asked makes left = left
led_so shape its (GoOn held) planned life now became let_go asked makes left = left
led_so shape its (Post admitted tries until.Inside) planned life now became let_go asked makes left = absurd asked
led_so shape its (GoIn climb tries until.Inside) planned life now became let_go asked makes left = absurd asked
led_so shape its (Stay held) planned life now became let_go asked makes left = absurd asked

-- The same for work until the worker is inside.
pub led_inside : (shape : Shape) (its : Submission) (work : SessionWork) (planned : PlannedCrash) (life : ℕ) (now : Session) (became : JobOutcome) (let_go : Option SeatView) → IsSubmitWork shape its work
    → WorkEffect shape (work_until_inside work) now.value became → WorkWithinPlan shape (work_lead (work_until_inside work)) (record { value = work_holding (work_until_inside work); planned = planned; life = life }) now became let_go
    → WorkWithinPlan shape (submit_lead (work_holding work) its.job) (record { value = work_holding work; planned = planned; life = life }) now became let_go
led_inside shape its (Repeat ready) planned life now became let_go asked makes left = repeated shape ready planned life its.job now became let_go makes left
led_inside shape its (Post admitted tries until.Finished) planned life now became let_go (next, same, none) makes left =
    let P : Job → Type 0 = λ job. WorkWithinPlan shape (handed job) (record { value = Ready admitted.ready; planned = planned; life = life }) now became let_go in subst P same left
led_inside shape its (GoIn climb tries until.Finished) planned life now became let_go asked makes left = left
led_inside shape its (GoOn held) planned life now became let_go asked makes left = left
led_inside shape its (Post admitted tries until.Inside) planned life now became let_go asked makes left = absurd asked
led_inside shape its (GoIn climb tries until.Inside) planned life now became let_go asked makes left = absurd asked
led_inside shape its (Stay held) planned life now became let_go asked makes left = absurd asked

-- It starts from the same worker, and has the same number of tries.
pub same_start : (work : SessionWork) → work_holding (work_until_inside work) ≡ work_holding work
same_start (Repeat ready) = refl
same_start (Post admitted tries until.Finished) = refl
same_start (GoIn climb tries until.Finished) = refl
same_start (GoOn held) = refl
same_start (Post admitted tries until.Inside) = refl
same_start (GoIn climb tries until.Inside) = refl
same_start (Stay held) = refl

pub same_tries : (tries : ℕ) (work : SessionWork) → HasWorkTries tries work → HasWorkTries tries (work_until_inside work)
same_tries tries (Repeat ready) has = has
same_tries tries (Post admitted given until.Finished) has = has
same_tries tries (GoIn climb given until.Finished) has = has
same_tries tries (GoOn held) has = tt
same_tries tries (Post admitted given until.Inside) has = has
same_tries tries (GoIn climb given until.Inside) has = has
same_tries tries (Stay held) has = has

-- The work of an order that continues a job.
pub led_onward : (shape : Shape) (work : SessionWork) (old now : Session) (became : JobOutcome) (let_go : Option SeatView) → IsResumeWork work → WorkWithinPlan shape (work_lead work) old now became let_go
    → WorkWithinPlan shape unchanged_part old now became let_go
led_onward shape (Repeat ready) old now became let_go asked left = absurd asked
led_onward shape (Post admitted tries until.Finished) old now became let_go asked left = absurd asked
led_onward shape (GoIn climb tries until.Finished) old now became let_go asked left = left
led_onward shape (GoOn held) old now became let_go asked left = left
led_onward shape (Post admitted tries until.Inside) old now became let_go asked left = absurd asked
led_onward shape (GoIn climb tries until.Inside) old now became let_go asked left = absurd asked
led_onward shape (Stay held) old now became let_go asked left = absurd asked

-- The tries that were made before a job waits.
pub driven_tried : (start : SeatView) (before after : SweepTries) (lock section : ℕ) (drive : Driven) → WaitsAfterAllSweeps start before after drive → GateLetsPass drive
    → WorkWaitsAfterTries (before.most - before.blocked) start.part.steps (driven_result lock section drive)
driven_tried start before after lock section (driven.Done ready receipt) exhausts passes = tt
driven_tried start before after lock section (driven.Waits climb) exhausts passes = exhausts.steps
driven_tried start before after lock section (driven.Stopped held) exhausts passes = absurd passes
driven_tried start before after lock section (driven.Fell down) exhausts passes = tt

tried_before : (most first later : ℕ) (value : Holding) (became : JobOutcome) → first ≤ later → ThreadWaitsAfterTries most later value became → ThreadWaitsAfterTries most first value became
tried_before most first later value (outcome.Receipt receipt) more tried = tt
tried_before most first later value outcome.Withdrawn more tried = tt
tried_before most first later value outcome.Waiting more tried = omega (arith, more, tried)
tried_before most first later value outcome.Fell more tried = tt
tried_before most first later value (outcome.Inside token) more tried = tt

pub tried_since : (most first later : ℕ) (worked : Result (Holding × JobOutcome) SeatView) → first ≤ later → WorkWaitsAfterTries most later worked → WorkWaitsAfterTries most first worked
tried_since most first later (Ok (value, became)) more tried = tried_before most first later value became more tried
tried_since most first later (Err down) more tried = tt

pub repeats_tried : (shape : Shape) (ready : SeatView) (most steps : ℕ) (value : Holding) (became : JobOutcome) → ThreadRepeatEffect shape ready value became → ThreadWaitsAfterTries most steps value became
repeats_tried shape ready most steps value (outcome.Receipt receipt) repeats = tt
repeats_tried shape ready most steps value outcome.Withdrawn repeats = tt
repeats_tried shape ready most steps value outcome.Waiting repeats = absurd repeats
repeats_tried shape ready most steps value outcome.Fell repeats = tt
repeats_tried shape ready most steps value (outcome.Inside token) repeats = tt

pub settled_tried : (most steps : ℕ) (planned : PlannedCrash) (life : ℕ) (worked : Result (Holding × JobOutcome) SeatView) (now : Session) (became : JobOutcome) (let_go : Option SeatView) → WorkSettlement worked planned life now became let_go
    → WorkWaitsAfterTries most steps worked → ThreadWaitsAfterTries most steps now.value became
settled_tried most steps planned life (Ok (value, its)) now became let_go (now_is, its_is, none) tried = rw (now_is, its_is) tried
settled_tried most steps planned life (Err down) now became let_go (now_is, its_is, go_is) tried = rw its_is tt

-- The token that is told, and the place of a worker that was inside.
pub settled_told : (shape : Shape) (planned : PlannedCrash) (life : ℕ) (worked : Result (Holding × JobOutcome) SeatView) (now : Session) (became : JobOutcome) (let_go : Option SeatView) → WorkSettlement worked planned life now became let_go
    → WorkTellsSection shape worked → TellsWorkerSection shape now.value (reply.Entered became)
settled_told shape planned life (Ok (value, its)) now became let_go (now_is, its_is, none) told = rw (now_is, its_is) told
settled_told shape planned life (Err down) now became let_go (now_is, its_is, go_is) told = rw now_is tt

pub settled_place : (start : Holding) (planned : PlannedCrash) (life : ℕ) (worked : Result (Holding × JobOutcome) SeatView) (now : Session) (became : JobOutcome) (let_go : Option SeatView) → WorkSettlement worked planned life now became let_go
    → WorkHasKnownPlace start worked → HasKnownPlace start became
settled_place Empty planned life worked now became let_go settles placed = tt
settled_place (Ready ready) planned life worked now became let_go settles placed = tt
settled_place (Climb climb) planned life worked now became let_go settles placed = tt
settled_place (Held held) planned life (Ok (value, its)) now became let_go (now_is, its_is, none) placed = rw its_is placed
settled_place (Held held) planned life (Err down) now became let_go (now_is, its_is, go_is) placed = rw its_is tt

-- A job that was posted: the worker that waits then has the next number, and what becomes of its job becomes of the next
-- job.
module _ (start now : SeatView) (job : Job) (draft : now.part.draft ≡ Some job) (entries : now.part.entries ≡ start.part.entries) (own : now.part.worker ≡ start.part.worker)
    (number_is : now.part.private.begun ≡ start.part.private.begun + 1) where
  still_awaits : (later : SeatView) → StillAwaitsLock now later → AwaitsLock (stand_next_job start job) start.part.entries later
  still_awaits later still = record { draft = still.draft ∙ draft; entries = still.entries ∙ entries; own = still.own ∙ own; number = still.number ∙ number_is }

  same_task : (other : Job) → now.part.draft ≡ Some other → stand_pending_job now other ≡ stand_next_job start job
  same_task other is = λ k. record { worker = own k; number = number_is k; job = same_Some other job (sym is ∙ draft) k }

  posted_effect : (stop : WorkGoal) (value : Holding) (its : JobOutcome) → WorkOnPendingJob stop now value its → WorkOnNextJob stop (stand_next_job start job) start.part.entries value its
  posted_effect until.Finished (Ready ready) (outcome.Receipt receipt) (other, is, (entry, has, same)) =
      let P : WorkerJob → List Entry → Type 0 = λ (task : WorkerJob) (before : List Entry). HasFinishedJob task before ready entry in
      (entry, subst (λ (before : List Entry). P (stand_next_job start job) before) entries (subst (λ (task : WorkerJob). P task now.part.entries) (same_task other is) has), same)
  posted_effect until.Finished (Climb climb) outcome.Waiting still = still_awaits climb still
  posted_effect until.Finished Empty outcome.Fell fell = tt
  posted_effect until.Inside (Held held) (outcome.Inside token) (still, entered, is) = (still_awaits held still, entered, is ∙ number_is)
  posted_effect until.Inside (Climb climb) outcome.Waiting still = still_awaits climb still
  posted_effect until.Inside Empty outcome.Fell fell = tt
  posted_effect until.Finished Empty (outcome.Receipt receipt) none = absurd none
  posted_effect until.Finished Empty outcome.Withdrawn none = absurd none
  posted_effect until.Finished Empty outcome.Waiting none = absurd none
  posted_effect until.Finished Empty (outcome.Inside token) none = absurd none
  posted_effect until.Finished (Ready ready) outcome.Withdrawn none = absurd none
  posted_effect until.Finished (Ready ready) outcome.Waiting none = absurd none
  posted_effect until.Finished (Ready ready) outcome.Fell none = absurd none
  posted_effect until.Finished (Ready ready) (outcome.Inside token) none = absurd none
  posted_effect until.Finished (Climb climb) (outcome.Receipt receipt) none = absurd none
  posted_effect until.Finished (Climb climb) outcome.Withdrawn none = absurd none
  posted_effect until.Finished (Climb climb) outcome.Fell none = absurd none
  posted_effect until.Finished (Climb climb) (outcome.Inside token) none = absurd none
  posted_effect until.Finished (Held held) (outcome.Receipt receipt) none = absurd none
  posted_effect until.Finished (Held held) outcome.Withdrawn none = absurd none
  posted_effect until.Finished (Held held) outcome.Waiting none = absurd none
  posted_effect until.Finished (Held held) outcome.Fell none = absurd none
  posted_effect until.Finished (Held held) (outcome.Inside token) none = absurd none
  posted_effect until.Inside Empty (outcome.Receipt receipt) none = absurd none
  posted_effect until.Inside Empty outcome.Withdrawn none = absurd none
  posted_effect until.Inside Empty outcome.Waiting none = absurd none
  posted_effect until.Inside Empty (outcome.Inside token) none = absurd none
  posted_effect until.Inside (Ready ready) (outcome.Receipt receipt) none = absurd none
  posted_effect until.Inside (Ready ready) outcome.Withdrawn none = absurd none
  posted_effect until.Inside (Ready ready) outcome.Waiting none = absurd none
  posted_effect until.Inside (Ready ready) outcome.Fell none = absurd none
  posted_effect until.Inside (Ready ready) (outcome.Inside token) none = absurd none
  posted_effect until.Inside (Climb climb) (outcome.Receipt receipt) none = absurd none
  posted_effect until.Inside (Climb climb) outcome.Withdrawn none = absurd none
  posted_effect until.Inside (Climb climb) outcome.Fell none = absurd none
  posted_effect until.Inside (Climb climb) (outcome.Inside token) none = absurd none
  posted_effect until.Inside (Held held) (outcome.Receipt receipt) none = absurd none
  posted_effect until.Inside (Held held) outcome.Withdrawn none = absurd none
  posted_effect until.Inside (Held held) outcome.Waiting none = absurd none
  posted_effect until.Inside (Held held) outcome.Fell none = absurd none

  pub posted_did : (stop : WorkGoal) (worked : Result (Holding × JobOutcome) SeatView) → WorkResultSatisfies worked (WorkOnPendingJob stop now)
      → WorkResultSatisfies worked (WorkOnNextJob stop (stand_next_job start job) start.part.entries)
  posted_did stop (Ok (value, its)) (has, up) = (posted_effect stop value its has, up)
  posted_did stop (Err down) has = posted_effect stop Empty outcome.Fell has
