-- A new service: all words are 0, and each worker has a seat, with no job posted.
use Rattle.std.specs.Prelude.{◌≡◌, ℕ, ◌-◌, List, map, length, slice_get, replicate, Some}
use Rattle.std.specs.List.{range_with_len}
use Rattle.rme_words.specs.declared.shape.Shape.{Shape}
use Rattle.rme_service_steps.specs.declared.seat_record.SeatRecord.{SeatRecord}
use Rattle.rme_service_steps.specs.Layout.{table_size}
use Rattle.rme_service_steps.specs.Parts.{fresh_part}
use Rattle.rme_service_steps.specs.SeatViews.{ServiceId, SeatView}

-- All words of the table are 0.
abbrev pub zero_table : Shape → List ℕ
zero_table shape = replicate (table_size shape) 0

-- The record of the first seat, once the parts of the workers below this one were split off.
abbrev pub record_from_worker : Shape → ℕ → SeatRecord
record_from_worker shape worker =
    record { shape = shape; parts = map fresh_part (range_with_len worker (shape.workers - worker)) }

-- A seat of the service with this worker's part as it is at the opening.
pub record IsFreshSeat (ident : ServiceId) (worker : ℕ) (seat : SeatView) : Type 0 where
  pub ours : seat.ident ≡ ident
  pub part : seat.part ≡ fresh_part worker

-- The service has the shape, and there is one seat for each worker, in order.
pub record ServiceIsOpened (shape : Shape) (ident : ServiceId) (seats : List SeatView) : Type 0 where
  pub shaped : ident.shape ≡ shape
  pub count : length seats ≡ shape.workers
  pub fresh : (k : ℕ) (seat : SeatView) → slice_get seats k ≡ Some seat → IsFreshSeat ident k seat
