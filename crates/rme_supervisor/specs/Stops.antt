-- The stop of a life.
use Rattle.std.specs.Prelude.{◌≡◌, ℕ, ◌+◌, ◌*◌, ◌≤◌, ◌⊎◌, Bool, true, false, List, Option, Result, Ok, Err, IfSome}
use Rattle.rme_words.specs.declared.shape.Shape.{Shape}
use Rattle.rme_script.specs.declared.job.Job.{Job}
use Rattle.rme_program.specs.declared.note.Receipt.{Receipt}
use Rattle.rme_service_steps.specs.SeatViews.{ServiceId, SeatView}
use Rattle.rme_table.specs.Calls.{LastReceiptContract, ClimbHasJob}
use Rattle.rme_table.specs.Driving.{AllSweepsWereMade, GateWasAsked}
use Rattle.rme_table.specs.declared.driving.Driven.{Driven}
use Rattle.rme_table.specs.declared.driving.SweepTries.{SweepTries}
use Rattle.rme_table.specs.declared.driving.Driven.TheVariants as driven
use Rattle.rme_supervisor.specs.declared.end.End.TheVariants.{Stalled}
use Rattle.rme_supervisor.specs.declared.plan.WorkerPlan.{WorkerPlan}
use Rattle.rme_supervisor.specs.declared.life_stop.LifeStop.{LifeStop}
use Rattle.rme_supervisor.specs.declared.life_stop.LifeStop.TheVariants.{Fell, Ended}
use Rattle.rme_supervisor.specs.declared.fall_countdown.FallCountdown.{FallCountdown}
use Rattle.rme_supervisor.specs.Ends.{EndIsAllowed, is_end_outside_life}
use Rattle.rme_supervisor.specs.Falling.{CountdownWasAsked}
use Rattle.rme_supervisor.specs.Plans.{SupervisedRun}

-- The value is this worker's, of this service.
pub record SeatIsOfWorker (ident : ServiceId) (worker : ℕ) (stand : SeatView) : Type 0 where
  pub ident_is : stand.ident ≡ ident
  pub own : stand.part.worker ≡ worker

-- The life of this worker stopped; if it ended, its end is one that a life may have, and its condition holds.
abbrev pub IsLifeStop : ServiceId → ℕ → ℕ → WorkerPlan → LifeStop → Type 0
IsLifeStop ident worker rounds plan (Fell down) = SeatIsOfWorker ident worker down
IsLifeStop ident worker rounds plan (Ended down end) =
    SeatIsOfWorker ident worker down × EndIsAllowed ident.shape rounds plan down.part.private.begun end
    × (is_end_outside_life end ≡ false)

-- A life, or a part of one, made own steps from here, with a question before each, until the worker was ready or the
-- life stopped: at a fall, which is one more question, or without one.
abbrev pub LifeSteps : FallCountdown → FallCountdown → SeatView → Result SeatView LifeStop → Type 0
LifeSteps old new start (Ok ready) = CountdownWasAsked old new start ready 0
LifeSteps old new start (Err (Fell down)) = CountdownWasAsked old new start down 1
LifeSteps old new start (Err (Ended down end)) = CountdownWasAsked old new start down 0

-- The result of a driven worker for its life: it is ready, or the life stopped. A worker that still waits, or that the
-- gate stopped, has stalled.
abbrev pub drive_result : Driven → Result SeatView LifeStop
drive_result (driven.Done ready receipt) = Ok ready
drive_result (driven.Waits climb) = Err (Ended climb Stalled)
drive_result (driven.Stopped held) = Err (Ended held Stalled)
drive_result (driven.Fell down) = Err (Fell down)

-- The worker afterwards.
abbrev pub seat_at_stop : Result SeatView LifeStop → SeatView
seat_at_stop (Ok ready) = ready
seat_at_stop (Err (Fell down)) = down
seat_at_stop (Err (Ended down end)) = down

-- The blocked sweeps on its job, counted further: at most the greatest number, and each with at least one own step.
pub record SweepsWereTried (old new : SweepTries) (start now : SeatView) : Type 0 where
  pub few : old.blocked ≤ old.most → new.blocked ≤ old.most
  pub steps : start.part.steps + new.blocked ≤ now.part.steps + old.blocked

-- A gate: its answers, whether it is known to admit every worker, and the shape of the service.
pub record GateView : Type 1 where
  pub answered : ℕ → ℕ → Bool → Type 0
  pub lets_all : Bool
  pub shape : Shape

abbrev pub gate_view : (ℕ → ℕ → Bool → Type 0) → Bool → Shape → GateView
gate_view answered lets_all shape = record { answered = answered; lets_all = lets_all; shape = shape }

-- The gate, which is not known to admit every worker, was asked about this one and did not admit it.
abbrev pub GateTurnsAway : GateView → ℕ → Type 0
GateTurnsAway gate worker = (gate.lets_all ≡ true → ⊥) × GateWasAsked gate.answered gate.shape worker false

-- A run whose workers pass this gate.
abbrev pub run_at_gate : ℕ → List WorkerPlan → List SeatView → GateView → SupervisedRun
run_at_gate rounds plans given gate = record {
  rounds = rounds;
  plans = plans;
  given = given;
  turned = GateTurnsAway gate;
}

-- A worker stalls after the greatest number of blocked sweeps on its job, or at the gate.
abbrev pub WorkerHasStalled : GateView → ℕ → SweepTries → Type 0
WorkerHasStalled gate worker tries = (tries.most ≤ tries.blocked) ⊎ GateTurnsAway gate worker

-- If a life ended at a stall, its worker has stalled.
abbrev pub StopIsAStall : GateView → ℕ → SweepTries → LifeStop → Type 0
StopIsAStall gate worker tries (Fell down) = Unit {0}
StopIsAStall gate worker tries (Ended down end) = end ≡ Stalled → WorkerHasStalled gate worker tries

-- A life that stalled from this worker made all remaining sweeps on its job, each blocked and with at least one own
-- step; or it stalled at the gate.
abbrev pub StallAfterSweeps : GateView → SeatView → SweepTries → SweepTries → LifeStop → Type 0
StallAfterSweeps gate start old new (Fell down) = Unit {0}
StallAfterSweeps gate start old new (Ended down end) =
    end ≡ Stalled → AllSweepsWereMade start down old new ⊎ GateTurnsAway gate start.part.worker

-- A job that was not yet begun has no blocked sweep.
abbrev pub no_sweep_tries : ℕ → SweepTries
no_sweep_tries most = record { blocked = 0; most = most }

-- The job of n operations was posted by 3 + 3n own steps, and the worker then waits with it.
pub record JobWasPosted (ready climb : SeatView) (job : Job) : Type 0 where
  pub posted : ClimbHasJob ready climb job
  pub steps : climb.part.steps ≡ ready.part.steps + (3 + 3 * job.script.n)

-- A worker that stalls with its next job made all allowed sweeps on it, from its post on; or it stalled at the gate.
abbrev pub StallAfterPost : GateView → SeatView → Job → ℕ → SweepTries → LifeStop → Type 0
StallAfterPost gate ready job most new (Fell down) = Unit {0}
StallAfterPost gate ready job most new (Ended down end) =
    end ≡ Stalled
    → ((climb : SeatView) × JobWasPosted ready climb job × AllSweepsWereMade climb down (no_sweep_tries most) new)
    ⊎ GateTurnsAway gate ready.part.worker

-- The gate was notified of the worker's last job, unless that was withdrawn.
pub record GateWasTold (told : ℕ → ℕ → ℕ → Type 0) (shape : Shape) (ready : SeatView) : Type 0 where
  pub receipt : Option Receipt
  pub last : LastReceiptContract shape ready.part receipt
  pub over : IfSome receipt (λ r. told r.worker r.lock r.number)
