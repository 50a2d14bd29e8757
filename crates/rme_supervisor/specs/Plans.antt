-- The jobs of a plan, and the plans that can be supervised.
use Rattle.std.specs.Prelude.{◌≡◌, ℕ, zero, suc, ◌+◌, ◌<◌, List, [], ◌++◌, length, slice_get, Some}
use Rattle.rme_script.specs.declared.job.Job.{Job}
use Rattle.rme_service_steps.specs.SeatViews.{SeatView}
use Rattle.rme_supervisor.specs.declared.plan.WorkerPlan.{WorkerPlan}

-- Jobs repeated this number of times, in order.
unfoldable pub jobs_repeated : ℕ → List Job → List Job
jobs_repeated zero jobs = []
jobs_repeated (suc n) jobs = jobs ++ jobs_repeated n jobs

-- All jobs of a plan in this number of rounds, in order.
abbrev pub planned_jobs : ℕ → WorkerPlan → List Job
planned_jobs rounds plan = jobs_repeated rounds plan.jobs.items

-- A supervised run: how often each worker makes the jobs of its plan, the plan of each worker and its Down at the call,
-- in order, and what is known of a worker that the gate turned away.
pub record SupervisedRun : Type 1 where
  pub rounds : ℕ
  pub plans : List WorkerPlan
  pub given : List SeatView
  pub turned : ℕ → Type 0

-- Each number is less than the next.
abbrev pub CountsRise : List ℕ → Type 0
CountsRise counts =
    (i : ℕ) (count next : ℕ) → slice_get counts i ≡ Some count → slice_get counts (i + 1) ≡ Some next → count < next

-- The falls increase strictly, and there is at least one life and one sweep.
pub record IsWorkerPlan (plan : WorkerPlan) : Type 0 where
  pub falls : CountsRise plan.falls.items
  pub lives : 0 < plan.lives
  pub sweeps : 0 < plan.sweeps

-- There are `count` plans, and each can be supervised.
pub record AreWorkerPlans (plans : List WorkerPlan) (count : ℕ) : Type 0 where
  pub as_many : length plans ≡ count
  pub each : (worker : ℕ) (plan : WorkerPlan) → slice_get plans worker ≡ Some plan → IsWorkerPlan plan
