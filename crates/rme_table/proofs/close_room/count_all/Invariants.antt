use Rattle.std.specs.Prelude.{◌≡◌, take, length}
use Rattle.rme_service_steps.specs.Rule.{total_of}
use Rattle.rme_service_steps.specs.SeatViews.{SeatView}
use Rattle.rme_table.proofs.close_room.count_all.Given as goal

abbrev pub invariant-loop-down : goal.invariant-loop-down
invariant-loop-down l = l.count ≡ total_of (λ (down : SeatView). length down.part.entries) (take l.down-index l.downs)
