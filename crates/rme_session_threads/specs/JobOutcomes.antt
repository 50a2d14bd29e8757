-- The outcome of a worker's job within one order.
use Rattle.std.specs.Prelude.{◌≡◌, ℕ, ◌+◌, ◌≤◌, length, List, [], ◌∷◌, ◌++◌, Option, Some, None, Result, MatchResult}
use Rattle.rme_words.specs.declared.shape.Shape.{Shape}
use Rattle.rme_script.specs.declared.job.Job.{Job}
use Rattle.rme_program.specs.declared.note.Entry.{Entry}
use Rattle.rme_program.specs.declared.note.Note.TheVariants.{Entered}
use Rattle.rme_service_steps.specs.declared.seat_record.Part.{Part}
use Rattle.rme_service_steps.specs.CallSteps.{ValuesWereFound}
use Rattle.rme_service_steps.specs.Parts.{part_after_change, part_with_section, unchanged_part, submitted_part}
use Rattle.rme_service_steps.specs.SeatViews.{SeatView}
use Rattle.rme_table.specs.Calls.{LastReceiptContract, PartHasSection, last_receipt}
use Rattle.rme_session_protocol.specs.declared.reply.FencingToken.{FencingToken}
use Rattle.rme_session_protocol.specs.declared.reply.JobOutcome.{JobOutcome}
use Rattle.rme_session_protocol.specs.declared.reply.JobOutcome.TheVariants as outcome
use Rattle.rme_session_protocol.specs.declared.reply.SessionReply.{SessionReply}
use Rattle.rme_session_protocol.specs.declared.reply.SessionReply.TheVariants as reply
use Rattle.rme_session_protocol.specs.PlannedCrashes.{IsCrashDue, PlanAfterSteps}
use Rattle.rme_session_protocol.specs.SessionSteps.{TellsSection}
use Rattle.rme_session_protocol.specs.SessionViews as sight
use Rattle.rme_session_protocol.specs.SessionViews.{WorkerJob}
use Rattle.rme_session_protocol.specs.declared.planned_crash.PlannedCrash.{PlannedCrash}
use Rattle.rme_session_threads.specs.Stands.{held_worker, holding_session, pending_worker_of, ready_worker_of}
use Rattle.rme_session_threads.specs.declared.work.WorkGoal.{WorkGoal}
use Rattle.rme_session_threads.specs.declared.work.WorkGoal.TheVariants as until
use Rattle.rme_session_threads.specs.declared.stand.Holding.{Holding}
use Rattle.rme_session_threads.specs.declared.stand.Holding.TheVariants.{Empty, Ready, Climb, Held}

-- The entry is one of this job.
pub record IsJobEntry (task : WorkerJob) (entry : Entry) : Type 0 where
  pub by : entry.receipt.worker ≡ task.worker
  pub number : entry.receipt.number ≡ task.number
  pub lock : entry.receipt.lock ≡ task.job.lock
  pub script : entry.script ≡ task.job.script

-- The worker finished the job: its entry is appended to the earlier ones.
pub record HasFinishedJob (task : WorkerJob) (before : List Entry) (ready : SeatView) (entry : Entry) : Type 0 where
  pub is_of : IsJobEntry task entry
  pub entries : ready.part.entries ≡ before ++ entry ∷ []
  pub own : ready.part.worker ≡ task.worker
  pub number : ready.part.private.begun ≡ task.number

-- The worker waits with the job, and its entries are unchanged.
pub record AwaitsLock (task : WorkerJob) (before : List Entry) (climb : SeatView) : Type 0 where
  pub draft : climb.part.draft ≡ Some task.job
  pub entries : climb.part.entries ≡ before
  pub own : climb.part.worker ≡ task.worker
  pub number : climb.part.private.begun ≡ task.number

-- The session worked on the job of a worker with these entries: the job is finished, and the receipt of its entry is
-- the answer; or it still waits; or the worker crashed, and the session has none.
abbrev pub ThreadJobEffect : WorkerJob → List Entry → Holding → JobOutcome → Type 0
ThreadJobEffect task before (Ready ready) (outcome.Receipt receipt) =
    (entry : Entry) × HasFinishedJob task before ready entry × (entry.receipt ≡ receipt)
ThreadJobEffect task before (Climb climb) outcome.Waiting = AwaitsLock task before climb
ThreadJobEffect task before Empty outcome.Fell = Unit {0}
ThreadJobEffect task before value its = ⊥

-- The job that a worker has, and its next one.
abbrev pub stand_pending_job : SeatView → Job → WorkerJob
stand_pending_job start job = sight.pending_worker_job (pending_worker_of start) job

abbrev pub stand_next_job : SeatView → Job → WorkerJob
stand_next_job start job = sight.next_worker_job (ready_worker_of None start) job

-- The worker waits with the same job.
pub record StillAwaitsLock (start climb : SeatView) : Type 0 where
  pub draft : climb.part.draft ≡ start.part.draft
  pub entries : climb.part.entries ≡ start.part.entries
  pub own : climb.part.worker ≡ start.part.worker
  pub number : climb.part.private.begun ≡ start.part.private.begun

-- The worker continued the job that it had.
abbrev pub ThreadPendingJobEffect : SeatView → Holding → JobOutcome → Type 0
ThreadPendingJobEffect start (Ready ready) (outcome.Receipt receipt) =
    (job : Job) × (start.part.draft ≡ Some job)
    × ThreadJobEffect (stand_pending_job start job) start.part.entries (Ready ready) (outcome.Receipt receipt)
ThreadPendingJobEffect start (Climb climb) outcome.Waiting = StillAwaitsLock start climb
ThreadPendingJobEffect start Empty outcome.Fell = Unit {0}
ThreadPendingJobEffect start value its = ⊥

-- Its last step was the one by which it entered: it made no step of its section.
abbrev pub HasJustEntered : SeatView → Type 0
HasJustEntered held = (lock : ℕ) × (held.part.note ≡ Entered lock)

-- The worker with these entries continued the job until it was inside; or it still waits; or it crashed.
abbrev pub ThreadEnterEffect : WorkerJob → List Entry → Holding → JobOutcome → Type 0
ThreadEnterEffect task before (Held held) (outcome.Inside token) =
    AwaitsLock task before held × HasJustEntered held × (token.number ≡ task.number)
ThreadEnterEffect task before (Climb climb) outcome.Waiting = AwaitsLock task before climb
ThreadEnterEffect task before Empty outcome.Fell = Unit {0}
ThreadEnterEffect task before value its = ⊥

-- It continued the job that it had until it was inside.
abbrev pub ThreadEnterPendingEffect : SeatView → Holding → JobOutcome → Type 0
ThreadEnterPendingEffect start (Held held) (outcome.Inside token) =
    StillAwaitsLock start held × HasJustEntered held × (token.number ≡ start.part.private.begun)
ThreadEnterPendingEffect start (Climb climb) outcome.Waiting = StillAwaitsLock start climb
ThreadEnterPendingEffect start Empty outcome.Fell = Unit {0}
ThreadEnterPendingEffect start value its = ⊥

-- THE FENCING TOKEN

-- A worker that is inside, after it has read the number of its lock's finished sections: its part knows that number,
-- and is otherwise unchanged. Its client is told the lock, the number of the job, that number, and the worker's life,
-- which its session has.
abbrev pub seat_with_section : SeatView → ℕ → SeatView
seat_with_section held section = record { ident = held.ident; part = part_with_section held.part section }

abbrev pub worker_token : SeatView → ℕ → ℕ → FencingToken
worker_token held lock section =
    record { lock = lock; number = held.part.private.begun; section = section; life = 0 }

abbrev pub token_in_life : ℕ → FencingToken → FencingToken
token_in_life life token =
    record { lock = token.lock; number = token.number; section = token.section; life = life }

abbrev pub outcome_in_life : ℕ → JobOutcome → JobOutcome
outcome_in_life life (outcome.Inside token) = outcome.Inside (token_in_life life token)
outcome_in_life life its = its

-- A worker that was already inside makes no step, and is told its token.
abbrev pub StaysInside : SeatView → Holding → JobOutcome → Type 0
StaysInside start value its =
    (lock : ℕ) × (section : ℕ) × (value ≡ Held (seat_with_section start section))
    × (its ≡ outcome.Inside (worker_token start lock section))

-- In every world with the worker's part, so many sections of the lock are finished.
abbrev pub WorkerHasSection : Shape → Option SeatView → ℕ → ℕ → Type 0
WorkerHasSection shape None lock section = ⊥
WorkerHasSection shape (Some stand) lock section = PartHasSection shape stand.part lock section

-- An answer that is a token tells the lock of the worker's job, and the number of the lock's finished sections.
abbrev pub TellsWorkerSection : Shape → Holding → SessionReply → Type 0
TellsWorkerSection shape value (reply.Entered became) =
    TellsSection (WorkerHasSection shape (held_worker value)) (holding_session None value) (reply.Entered became)
TellsWorkerSection shape value answer = Unit {0}

-- A worker that was inside does not wait; if its part knew the number of finished sections, its receipt has that place.
abbrev pub HasKnownPlace : Holding → JobOutcome → Type 0
HasKnownPlace (Held held) (outcome.Receipt receipt) =
    (section : ℕ) → held.part.section ≡ Some section → receipt.place ≡ section
HasKnownPlace (Held held) outcome.Waiting = ⊥
HasKnownPlace start its = Unit {0}

-- The work on the worker's next job, and on the job that it has, by where it stops.
abbrev pub WorkOnNextJob : WorkGoal → WorkerJob → List Entry → Holding → JobOutcome → Type 0
WorkOnNextJob until.Finished task before value its = ThreadJobEffect task before value its
WorkOnNextJob until.Inside task before value its = ThreadEnterEffect task before value its

abbrev pub WorkOnPendingJob : WorkGoal → SeatView → Holding → JobOutcome → Type 0
WorkOnPendingJob until.Finished start value its = ThreadPendingJobEffect start value its
WorkOnPendingJob until.Inside start value its = ThreadEnterPendingEffect start value its

-- The last number is answered again, by its receipt or as withdrawn, and the worker is unchanged.
abbrev pub ThreadRepeatEffect : Shape → SeatView → Holding → JobOutcome → Type 0
ThreadRepeatEffect shape start value (outcome.Receipt receipt) =
    (value ≡ Ready start) × (last_receipt start.part.entries ≡ Some receipt)
    × LastReceiptContract shape start.part (Some receipt)
ThreadRepeatEffect shape start value outcome.Withdrawn =
    (value ≡ Ready start) × LastReceiptContract shape start.part None
ThreadRepeatEffect shape start value its = ⊥

-- The end of work in which a crash leaves the session without a worker.
abbrev pub IsNotFallen : JobOutcome → Type 0
IsNotFallen outcome.Fell = ⊥
IsNotFallen its = Unit {0}

abbrev pub WorkResultSatisfies : Result (Holding × JobOutcome) SeatView → (Holding → JobOutcome → Type 0) → Type 0
WorkResultSatisfies worked Has =
    MatchResult worked (λ (done : Holding × JobOutcome). Has done.0 done.1 × IsNotFallen done.1)
    (λ (down : SeatView). Has Empty outcome.Fell)

-- The number of own steps that a worker has made until now.
abbrev pub stand_steps : Option SeatView → ℕ
stand_steps None = 0
stand_steps (Some stand) = stand.part.steps

abbrev pub holding_steps : Holding → ℕ
holding_steps value = stand_steps (held_worker value)

-- A job waits only after this number of tries, each with at least one own step, beyond the worker's earlier steps.
abbrev pub ThreadWaitsAfterTries : ℕ → ℕ → Holding → JobOutcome → Type 0
ThreadWaitsAfterTries tries steps value outcome.Waiting = steps + tries ≤ holding_steps value
ThreadWaitsAfterTries tries steps value its = Unit {0}

abbrev pub WorkWaitsAfterTries : ℕ → ℕ → Result (Holding × JobOutcome) SeatView → Type 0
WorkWaitsAfterTries tries steps worked =
    MatchResult worked (λ (done : Holding × JobOutcome). ThreadWaitsAfterTries tries steps done.0 done.1)
    (λ (down : SeatView). Unit {0})

-- What a worker learns from the load that makes its token. It is no own step.
abbrev pub part_when_told : JobOutcome → Part → Part
part_when_told (outcome.Inside token) part = part_with_section part token.section
part_when_told its part = part

-- The worker made `made` own steps, and nothing else happened to it but the lead before the first of them, and what it
-- learned after the last. Each step is the core's, over the number that it found in a world.
pub record HasMadeOwnSteps (shape : Shape) (lead learns : Part → Part) (start now : SeatView) (made : ℕ) : Type 0 where
  pub ident : now.ident ≡ start.ident
  pub own : now.part.worker ≡ start.part.worker
  pub values : List ℕ
  pub walk : now.part ≡ learns (part_after_change shape lead start.part values)
  pub found : ValuesWereFound shape lead start.part values
  pub count : length values ≡ made
  pub steps : now.part.steps ≡ start.part.steps + made

abbrev pub OwnStepsThenLoad : Shape → (Part → Part) → (Part → Part) → Option SeatView → Option SeatView → ℕ → Type 0
OwnStepsThenLoad shape lead learns (Some start) (Some now) made = HasMadeOwnSteps shape lead learns start now made
OwnStepsThenLoad shape lead learns start now made = ⊥

abbrev pub OwnStepsBetween : Shape → (Part → Part) → Option SeatView → Option SeatView → ℕ → Type 0
OwnStepsBetween shape lead = OwnStepsThenLoad shape lead unchanged_part

-- The lead of a submission: the job is submitted to a ready worker.
abbrev pub submit_lead : Holding → Job → Part → Part
submit_lead (Ready ready) job = submitted_part job
submit_lead value job = unchanged_part

-- A worker continued without a crash, and the plan is what remains after its steps.
abbrev pub PlanSpares : Shape → (Part → Part) → (Part → Part) → PlannedCrash → Option SeatView → PlannedCrash
    → Option SeatView → Type 0
PlanSpares shape lead learns old start now end =
    (made : ℕ) × OwnStepsThenLoad shape lead learns start end made × PlanAfterSteps old made now

-- A worker continued and crashed after exactly the planned number of own steps, and this is its Down.
abbrev pub PlanCrashes : Shape → (Part → Part) → PlannedCrash → Option SeatView → Option SeatView → Type 0
PlanCrashes shape lead old start down = (made : ℕ) × OwnStepsBetween shape lead start down made × IsCrashDue old made
