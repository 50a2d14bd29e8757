use Rattle.std.specs.Prelude.{◌≡◌, ℕ, ◌<◌, slice_get, Some}
use Rattle.rme_supervisor.specs.declared.plan.WorkerPlan.{WorkerPlan}
use Rattle.rme_supervisor.specs.Plans.{IsWorkerPlan}
use Rattle.rme_supervisor.proofs.checking.are_worker_plans.Given as goal

abbrev pub invariant-loop-plan : goal.invariant-loop-plan
invariant-loop-plan l = (worker : ℕ) (plan : WorkerPlan) → worker < l.plan-index → slice_get l.plans worker ≡ Some plan → IsWorkerPlan plan
