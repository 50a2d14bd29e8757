-- A worker between two lives.
use Rattle.std.specs.Prelude.{◌≡◌, ◌≢◌, ◌⊎◌, ℕ, ◌+◌, ◌<◌, ◌≤◌, Bool, true, false, List, Option, Some, None, slice_get}
use Rattle.rme_words.specs.declared.shape.Shape.{Shape}
use Rattle.rme_service_steps.specs.SeatViews.{ServiceId, SeatView}
use Rattle.rme_supervisor.specs.declared.end.End.{End}
use Rattle.rme_supervisor.specs.declared.end.End.TheVariants.{OutOfLives, NoStart, Stalled}
use Rattle.rme_supervisor.specs.declared.plan.WorkerPlan.{WorkerPlan}
use Rattle.rme_supervisor.specs.Ends.{EndIsAllowed, is_end_outside_life}
use Rattle.rme_supervisor.specs.Falling.{LivesFellAt, LastLifeStoodAt}
use Rattle.rme_supervisor.specs.Plans.{SupervisedRun, IsWorkerPlan}
use Rattle.rme_supervisor.specs.Stops.{GateView, GateTurnsAway, gate_view}

-- The worker, the end of its lives, if any, the number of blocked sweeps on its job, and the number of lives started.
pub record WorkerSlotView : Type 0 where
  pub stand : SeatView
  pub end : Option End
  pub blocked : ℕ
  pub lives : ℕ

-- A worker with this Down at the call has made own steps since, in at most as many lives as its plan has, and with at
-- most as many blocked sweeps on its job. If the worker may have a further life, or is out of lives, each life ended at
-- the plan's next fall; if it is out of lives they were as many as the plan has, otherwise it may have a further one.
-- An end of a life is not the lack of a thread; it came before the next fall; and if it was a stall, the greatest
-- number of sweeps was made, or the gate turned the worker away.
pub record LivesFollowPlan (turned : ℕ → Type 0) (plan : WorkerPlan) (first : SeatView) (rest : WorkerSlotView) : Type 0
  where
    pub made : ℕ
    pub steps : rest.stand.part.steps ≡ first.part.steps + made
    pub swept : rest.blocked ≤ made
    pub few : rest.blocked ≤ plan.sweeps
    pub most : rest.lives ≤ plan.lives
    pub falls : rest.end ≡ None → LivesFellAt plan.falls.items rest.lives made
    pub more : rest.end ≡ None → 0 < plan.lives → rest.lives < plan.lives
    pub out : rest.end ≡ Some OutOfLives → LivesFellAt plan.falls.items rest.lives made × (rest.lives ≡ plan.lives)
    pub ended : (end : End) → rest.end ≡ Some end → (end ≢ NoStart) × (0 < rest.lives)
    pub stood : (end : End) → rest.end ≡ Some end → is_end_outside_life end ≡ false
        → LastLifeStoodAt plan.falls.items rest.lives made
    pub stalled : rest.end ≡ Some Stalled → (plan.sweeps ≤ rest.blocked) ⊎ turned rest.stand.part.worker

-- A worker lives again if and only if it fell and has lived fewer lives than its plan has: it is out of lives only if
-- they were as many.
abbrev pub MayLiveAgain : WorkerPlan → ℕ → Option End → Type 0
MayLiveAgain plan lives None = lives < plan.lives
MayLiveAgain plan lives (Some end) = is_end_outside_life end ≡ true → lives ≡ plan.lives

-- The end and the number of lives are ones that the worker's plan allows.
pub record SlotFollowsPlan (shape : Shape) (run : SupervisedRun) (rest : WorkerSlotView) : Type 0 where
  pub earned : (plan : WorkerPlan) (end : End) → slice_get run.plans rest.stand.part.worker ≡ Some plan
      → rest.end ≡ Some end
      → EndIsAllowed shape run.rounds plan rest.stand.part.private.begun end
  pub rested : (plan : WorkerPlan) (first : SeatView) → slice_get run.plans rest.stand.part.worker ≡ Some plan
      → slice_get run.given rest.stand.part.worker ≡ Some first
      → LivesFollowPlan run.turned plan first rest

-- Each of these is its worker's Down at the call.
abbrev pub AreDownsAtCall : List SeatView → List SeatView → Type 0
AreDownsAtCall given downs =
    (k : ℕ) (down : SeatView) → slice_get downs k ≡ Some down → slice_get given down.part.worker ≡ Some down

-- The terms of a worker's lives: the service, the number of rounds, the worker's plan and the gate.
pub record LifeTerms : Type 1 where
  pub service : ServiceId
  pub rounds : ℕ
  pub plan : WorkerPlan
  pub gate : GateView

abbrev pub life_terms : ServiceId → ℕ → WorkerPlan → (ℕ → ℕ → Bool → Type 0) → Bool → LifeTerms
life_terms service rounds plan answered lets_all = record {
  service = service;
  rounds = rounds;
  plan = plan;
  gate = gate_view answered lets_all service.shape;
}

-- The lives of this worker follow its plan, which is valid, in the rounds of the run and in this service; and for a
-- worker that the gate turns away the fact `turned` of the run holds.
pub record IsLifeContext (ident : ServiceId) (run : SupervisedRun) (worker : ℕ) (life : LifeTerms) : Type 0 where
  pub ours : life.service ≡ ident
  pub rounds_are : life.rounds ≡ run.rounds
  pub planned : slice_get run.plans worker ≡ Some life.plan
  pub good : IsWorkerPlan life.plan
  pub away : (other : ℕ) → GateTurnsAway life.gate other → run.turned other

-- The same for each worker that has a plan.
abbrev pub AreLifeContexts : ServiceId → SupervisedRun → (WorkerPlan → LifeTerms) → List WorkerPlan → Type 0
AreLifeContexts ident run life plans =
    (worker : ℕ) (plan : WorkerPlan) → slice_get plans worker ≡ Some plan → IsLifeContext ident run worker (life plan)
