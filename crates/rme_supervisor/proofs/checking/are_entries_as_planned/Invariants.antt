use Rattle.std.specs.Prelude.{◌≡◌, ℕ, ◌<◌, slice_get, Some}
use Rattle.rme_service_steps.specs.SeatViews.{SeatView}
use Rattle.rme_supervisor.specs.declared.end.End.{End}
use Rattle.rme_supervisor.specs.declared.plan.WorkerPlan.{WorkerPlan}
use Rattle.rme_supervisor.specs.Supervised.{EntriesFollowPlan}
use Rattle.rme_supervisor.proofs.checking.are_entries_as_planned.Given as goal

abbrev pub invariant-loop-worker : goal.invariant-loop-worker
invariant-loop-worker l = (at : ℕ) (plan : WorkerPlan) (down : SeatView) (end : End) → at < l.worker → slice_get l.plans at ≡ Some plan → slice_get l.downs at ≡ Some down
    → slice_get l.ends at ≡ Some end → EntriesFollowPlan l.rounds plan down.part.entries end
