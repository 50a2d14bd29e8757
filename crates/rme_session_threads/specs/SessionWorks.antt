-- The work of an order on its session's worker, and its result.
use Rattle.std.specs.Prelude.{◌≡◌, ℕ, ◌+◌, ◌<◌, false, Option, Some, None, Result, Ok, Err, MatchResult}
use Rattle.rme_words.specs.declared.shape.Shape.{Shape}
use Rattle.rme_service_steps.specs.declared.seat_record.Part.{Part}
use Rattle.rme_service_steps.specs.Parts.{unchanged_part, submitted_part}
use Rattle.rme_service_steps.specs.SeatViews.{ServiceId, SeatView}
use Rattle.rme_table.specs.Calls.{is_section_over}
use Rattle.rme_table.specs.declared.driving.Driven.{Driven}
use Rattle.rme_table.specs.declared.driving.Driven.TheVariants as driven
use Rattle.rme_session_protocol.specs.declared.reply.JobOutcome.{JobOutcome}
use Rattle.rme_session_protocol.specs.declared.reply.JobOutcome.TheVariants as outcome
use Rattle.rme_session_protocol.specs.declared.reply.SessionReply.TheVariants as reply
use Rattle.rme_session_protocol.specs.declared.order.Submission.{Submission}
use Rattle.rme_session_protocol.specs.Refusals.{PendingJobRefusal}
use Rattle.rme_script.specs.JobRefusals.{job_refusal}
use Rattle.rme_session_protocol.specs.declared.planned_crash.Countdown.{Countdown}
use Rattle.rme_session_protocol.specs.declared.planned_crash.Countdown.TheVariants.{Runs, Fallen}
use Rattle.rme_session_protocol.specs.declared.planned_crash.PlannedCrash.{PlannedCrash}
use Rattle.rme_session_threads.specs.Stands.{held_worker, empty_stand}
use Rattle.rme_session_threads.specs.JobOutcomes.{HasKnownPlace, WorkOnNextJob, WorkOnPendingJob, PlanCrashes, StaysInside, TellsWorkerSection, ThreadPendingJobEffect, PlanSpares, ThreadRepeatEffect, part_when_told, seat_with_section, stand_next_job, worker_token}
use Rattle.rme_session_threads.specs.declared.stand.Holding.{Holding}
use Rattle.rme_session_threads.specs.declared.stand.Holding.TheVariants as holds
use Rattle.rme_session_threads.specs.declared.stand.Stand.{Stand as Standing}
use Rattle.rme_session_threads.specs.declared.work.SessionWork.{SessionWork}
use Rattle.rme_session_threads.specs.declared.work.SessionWork.TheVariants.{Repeat, Post, GoIn, GoOn, Stay}
use Rattle.rme_session_threads.specs.declared.work.WorkGoal.TheVariants as until

-- What the session holds before the work.
abbrev pub work_holding : SessionWork → Holding
work_holding (Repeat ready) = holds.Ready ready
work_holding (Post admitted tries stop) = holds.Ready admitted.ready
work_holding (GoIn climb tries stop) = holds.Climb climb
work_holding (GoOn held) = holds.Held held
work_holding (Stay held) = holds.Held held

-- The work of a submission that is not refused: the last number again; or the next number, whose job may be posted; or
-- the pending job.
abbrev pub IsSubmitWork : Shape → Submission → SessionWork → Type 0
IsSubmitWork shape its (Repeat ready) = (0 < its.number) × (its.number ≡ ready.part.private.begun)
IsSubmitWork shape its (Post admitted tries until.Finished) =
    (its.number ≡ admitted.ready.part.private.begun + 1) × (admitted.job ≡ its.job)
    × (job_refusal shape admitted.ready.part.private.begun its.job ≡ None)
IsSubmitWork shape its (GoIn climb tries until.Finished) =
    PendingJobRefusal climb.part.private.begun climb.part.draft its None
IsSubmitWork shape its (GoOn held) = PendingJobRefusal held.part.private.begun held.part.draft its None
IsSubmitWork shape its work = ⊥

-- The same work, until the worker is inside.
abbrev pub work_until_inside : SessionWork → SessionWork
work_until_inside (Post admitted tries stop) = Post admitted tries until.Inside
work_until_inside (GoIn climb tries stop) = GoIn climb tries until.Inside
work_until_inside (GoOn held) = Stay held
work_until_inside work = work

-- The work of an order that continues a job.
abbrev pub IsResumeWork : SessionWork → Type 0
IsResumeWork (Repeat ready) = ⊥
IsResumeWork (GoIn climb tries until.Finished) = Unit {0}
IsResumeWork (GoOn held) = Unit {0}
IsResumeWork work = ⊥

-- The job may wait after this number of tries; a worker that owns its lock, or has no job to do, does not wait.
abbrev pub HasWorkTries : ℕ → SessionWork → Type 0
HasWorkTries tries (Post admitted given stop) = given ≡ tries
HasWorkTries tries (GoIn climb given stop) = given ≡ tries
HasWorkTries tries work = Unit {0}

-- What the session holds after the work, and the outcome of the job.
abbrev pub WorkEffect : Shape → SessionWork → Holding → JobOutcome → Type 0
WorkEffect shape (Repeat ready) value its = ThreadRepeatEffect shape ready value its
WorkEffect shape (Post admitted tries stop) value its =
    WorkOnNextJob stop (stand_next_job admitted.ready admitted.job) admitted.ready.part.entries value its
WorkEffect shape (GoIn climb tries stop) value its = WorkOnPendingJob stop climb value its
WorkEffect shape (GoOn held) value its = ThreadPendingJobEffect held value its
WorkEffect shape (Stay held) value its = StaysInside held value its

-- What the session holds of a driven worker, and the outcome of its job; a worker that was stopped is told this lock
-- and this section.
abbrev pub driven_result : ℕ → ℕ → Driven → Result (Holding × JobOutcome) SeatView
driven_result lock section (driven.Done ready receipt) = Ok (holds.Ready ready, outcome.Receipt receipt)
driven_result lock section (driven.Waits climb) = Ok (holds.Climb climb, outcome.Waiting)
driven_result lock section (driven.Stopped held) =
    Ok (holds.Held (seat_with_section held section), outcome.Inside (worker_token held lock section))
driven_result lock section (driven.Fell down) = Err down

-- A driven worker that was stopped is one of this service, and its job is unfinished.
abbrev pub IsStoppedInside : ServiceId → Driven → Type 0
IsStoppedInside ident (driven.Stopped held) =
    (held.ident ≡ ident) × (is_section_over held.part.private.stage ≡ false)
IsStoppedInside ident drive = Unit {0}

-- A worker that is inside after the work is told its token; one that was inside before has the place that it knew.
abbrev pub WorkTellsSection : Shape → Result (Holding × JobOutcome) SeatView → Type 0
WorkTellsSection shape worked =
    MatchResult worked (λ (done : Holding × JobOutcome). TellsWorkerSection shape done.0 (reply.Entered done.1))
    (λ (down : SeatView). Unit {0})

abbrev pub WorkHasKnownPlace : Holding → Result (Holding × JobOutcome) SeatView → Type 0
WorkHasKnownPlace (holds.Held held) worked =
    MatchResult worked (λ (done : Holding × JobOutcome). HasKnownPlace (holds.Held held) done.1)
    (λ (down : SeatView). Unit {0})
WorkHasKnownPlace start worked = Unit {0}

-- The lead before the first step of the work.
abbrev pub work_lead : SessionWork → Part → Part
work_lead (Post admitted tries stop) = submitted_part admitted.job
work_lead work = unchanged_part

-- The plan after work: the worker was spared, or it crashed as planned. No work begins after a crash.
abbrev pub CountdownSpares : Shape → (Part → Part) → (Part → Part) → Countdown → Option SeatView → Countdown
    → Option SeatView → Type 0
CountdownSpares shape lead learns (Runs old) start (Runs now) end = PlanSpares shape lead learns old start now end
CountdownSpares shape lead learns (Runs old) start Fallen end = ⊥
CountdownSpares shape lead learns Fallen start now end = Unit {0}

abbrev pub CountdownCrashes : Shape → (Part → Part) → Countdown → Option SeatView → Option SeatView → Type 0
CountdownCrashes shape lead (Runs old) start down = PlanCrashes shape lead old start down
CountdownCrashes shape lead Fallen start down = Unit {0}

abbrev pub WorkSpendsCountdown : Shape → (Part → Part) → Countdown → Option SeatView → Countdown
    → Result (Holding × JobOutcome) SeatView → Type 0
WorkSpendsCountdown shape lead old start now worked =
    MatchResult worked
    (λ (done : Holding × JobOutcome).
    CountdownSpares shape lead (part_when_told done.1) old start now (held_worker done.0))
    (λ (down : SeatView). CountdownCrashes shape lead old start (Some down))

-- What the session holds after work, the outcome, and the worker that crashed.
abbrev pub WorkSettlement : Result (Holding × JobOutcome) SeatView → PlannedCrash → ℕ → Standing → JobOutcome
    → Option SeatView → Type 0
WorkSettlement (Ok done) planned life now became let_go =
    (now ≡ record { value = done.0; planned = planned; life = life }) × (became ≡ done.1) × (let_go ≡ None)
WorkSettlement (Err down) planned life now became let_go =
    (now ≡ empty_stand) × (became ≡ outcome.Fell) × (let_go ≡ Some down)

-- A worker that crashes made exactly the planned number of own steps, and is released; the session then has no worker,
-- and nothing is planned. Without a crash, the planned one comes earlier by the steps that the worker made. In both
-- cases only the worker's own steps happened to it, after their lead, and the load that made its token.
abbrev pub WorkWithinPlan : Shape → (Part → Part) → Standing → Standing → JobOutcome → Option SeatView → Type 0
WorkWithinPlan shape lead old now outcome.Fell let_go =
    PlanCrashes shape lead old.planned (held_worker old.value) let_go × (now ≡ empty_stand)
WorkWithinPlan shape lead old now became let_go =
    PlanSpares shape lead (part_when_told became) old.planned (held_worker old.value) now.planned
    (held_worker now.value) × (let_go ≡ None)
