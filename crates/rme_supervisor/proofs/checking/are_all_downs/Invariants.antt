use Rattle.std.specs.Prelude.{◌≡◌, ℕ, ◌<◌, slice_get, Some}
use Rattle.rme_service_steps.specs.SeatViews.{SeatView}
use Rattle.rme_supervisor.proofs.checking.are_all_downs.Given as goal

abbrev pub invariant-loop-worker : goal.invariant-loop-worker
invariant-loop-worker l = (at : ℕ) (down : SeatView) → at < l.worker → slice_get l.downs at ≡ Some down → down.part.worker ≡ at
