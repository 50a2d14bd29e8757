use Rattle.std.specs.Prelude.{◌≡◌, ◌≤◌, [], vec_capacity, length, slice_get, Some, ℕ}
use Rattle.rme_service_steps.specs.SeatViews.{SeatView}
use Rattle.rme_service_steps.specs.Opening.{record_from_worker, IsFreshSeat}
use Rattle.rme_service_steps.proofs.word_table.WordTable.open.Given as goal

abbrev pub invariant-loop-worker : goal.invariant-loop-worker
invariant-loop-worker l =
    (l.shape.workers ≤ vec_capacity l.seats) × (length l.seats.items ≡ l.worker) × (l.seat.table_id ≡ l.service-inside.table.shared.table_id) × (l.service-inside.shape ≡ l.shape)
    × (l.seat.me ≡ (record_from_worker l.shape l.worker, []))
    × ((k : ℕ) (seat : SeatView) → slice_get l.seats.items k ≡ Some seat → IsFreshSeat record { table = l.service-inside.table.shared.table_id; shape = l.service-inside.shape } k seat)
