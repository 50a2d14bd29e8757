-- The possible ends of a worker's lives.
use Rattle.std.specs.Prelude.{◌≡◌, ◌≢◌, ℕ, ◌+◌, ◌<◌, ◌≤◌, ◌⊎◌, Bool, true, false, List, length, slice_get, Some}
use Rattle.rme_words.specs.declared.shape.Shape.{Shape}
use Rattle.rme_words.specs.declared.refusal.Refusal.{Refusal}
use Rattle.rme_script.specs.declared.job.Job.{Job}
use Rattle.rme_service_steps.specs.SeatViews.{ServiceId, SeatView}
use Rattle.rme_service_steps.specs.Closing.{SeatsAreOfService}
use Rattle.rme_script.specs.JobRefusals.{job_refusal}
use Rattle.rme_supervisor.specs.declared.end.End.{End}
use Rattle.rme_supervisor.specs.declared.end.End.TheVariants.{AllDone, Stalled, OutOfLives, NoStart, Refused}
use Rattle.rme_supervisor.specs.declared.plan.WorkerPlan.{WorkerPlan}
use Rattle.rme_supervisor.specs.Falling.{LivesFellAt, LastLifeStoodAt}
use Rattle.rme_supervisor.specs.Plans.{SupervisedRun, planned_jobs}

-- The plan's next job is refused for this reason.
pub record NextJobIsRefused (shape : Shape) (rounds : ℕ) (plan : WorkerPlan) (begun : ℕ) (refusal : Refusal) : Type 0
  where
    pub job : Job
    pub next : slice_get (planned_jobs rounds plan) begun ≡ Some job
    pub why : job_refusal shape begun job ≡ Some refusal

-- A worker that has begun `begun` jobs may end so: with all jobs done if its plan has no further one, out of lives if
-- its plan has as many falls, and refused if `post` refuses the next job.
abbrev pub EndIsAllowed : Shape → ℕ → WorkerPlan → ℕ → End → Type 0
EndIsAllowed shape rounds plan begun AllDone = length (planned_jobs rounds plan) ≤ begun
EndIsAllowed shape rounds plan begun Stalled = Unit {0}
EndIsAllowed shape rounds plan begun OutOfLives = plan.lives ≤ length plan.falls.items
EndIsAllowed shape rounds plan begun NoStart = Unit {0}
EndIsAllowed shape rounds plan begun (Refused refusal) = NextJobIsRefused shape rounds plan begun refusal

-- An end outside a life: the worker had no thread for a life, or no life left.
abbrev pub is_end_outside_life : End → Bool
is_end_outside_life OutOfLives = true
is_end_outside_life NoStart = true
is_end_outside_life _ = false

-- At most as many lives of a worker were started as its plan has. The worker is out of lives only if they were as many;
-- it had no thread only if it might have a further life; every other end is that of a life. Each life but the last
-- ended at the plan's next fall, before the own step that would follow its count, counted over all lives since the
-- call; so did the last life of a worker that is out of lives, or had no thread for a further one. A life that ended in
-- another way made no step after the next fall. A worker that stalled made as many blocked sweeps as the plan allows,
-- each with at least one own step, or the gate turned it away.
pub record WorkerLivesMatch (turned : ℕ → Type 0) (plan : WorkerPlan) (first down : SeatView) (end : End) (lives : ℕ) :
    Type 0 where
  pub made : ℕ
  pub steps : down.part.steps ≡ first.part.steps + made
  pub most : lives ≤ plan.lives
  pub out : end ≡ OutOfLives → lives ≡ plan.lives
  pub left : end ≡ NoStart → 0 < plan.lives → lives < plan.lives
  pub lived : end ≢ NoStart → 0 < lives
  pub fell : is_end_outside_life end ≡ true → LivesFellAt plan.falls.items lives made
  pub stood : is_end_outside_life end ≡ false → LastLifeStoodAt plan.falls.items lives made
  pub stalled : end ≡ Stalled → (plan.sweeps ≤ made) ⊎ turned down.part.worker

-- Workers of this service, the end of each one's lives, and the number of lives started: each is one that its plan
-- allows.
pub record WorkersFollowPlans (ident : ServiceId) (run : SupervisedRun) (downs : List SeatView) (ended : List End)
    (counts : List ℕ) : Type 0 where
  pub ours : SeatsAreOfService ident downs
  pub ends : length ended ≡ length downs
  pub lives : length counts ≡ length downs
  pub earned : (k : ℕ) (down : SeatView) (end : End) (plan : WorkerPlan) → slice_get downs k ≡ Some down
      → slice_get ended k ≡ Some end → slice_get run.plans down.part.worker ≡ Some plan
      → EndIsAllowed ident.shape run.rounds plan down.part.private.begun end
  pub lived : (k : ℕ) (down : SeatView) (end : End) (lives : ℕ) (plan : WorkerPlan) (first : SeatView)
      → slice_get downs k ≡ Some down → slice_get ended k ≡ Some end → slice_get counts k ≡ Some lives
      → slice_get run.plans down.part.worker ≡ Some plan → slice_get run.given down.part.worker ≡ Some first
      → WorkerLivesMatch run.turned plan first down end lives
