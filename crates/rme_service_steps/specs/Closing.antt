-- The close of a service: its final words, and the parts and entries of its seats.
use Rattle.std.specs.Prelude.{◌≡◌, ℕ, ◌<◌, ◌≤◌, List, [], ◌∷◌, ◌++◌, slice_get, Some}
use Rattle.rme_words.specs.declared.shape.Shape.{Shape}
use Rattle.rme_program.specs.declared.note.Entry.{Entry}
use Rattle.rme_service_steps.specs.declared.seat_record.Part.{Part}
use Rattle.rme_service_steps.specs.Layout.{words_of_table}
use Rattle.rme_service_steps.specs.Rule.{ServiceInvariant, total_of, part_is_of_worker}
use Rattle.rme_service_steps.specs.SeatViews.{ServiceId, SeatView}

-- All seats are of this service.
abbrev pub SeatsAreOfService : ServiceId → List SeatView → Type 0
SeatsAreOfService ident seats = (k : ℕ) (seat : SeatView) → slice_get seats k ≡ Some seat → seat.ident ≡ ident

-- The parts and the entries of all seats, the last seat's first.
abbrev pub parts_given : List SeatView → List Part
parts_given [] = []
parts_given (seat ∷ seats) = parts_given seats ++ seat.part ∷ []

abbrev pub entries_given : List SeatView → List Entry
entries_given [] = []
entries_given (seat ∷ seats) = entries_given seats ++ seat.part.entries

-- The number of these seats that are of the worker.
abbrev pub seat_count_of_worker : ℕ → List SeatView → ℕ
seat_count_of_worker worker seats = total_of (λ (seat : SeatView). part_is_of_worker worker seat.part) seats

-- The seat has the part of its worker.
pub record SeatHasWorkersPart (shape : Shape) (parts : ℕ → Part) (seat : SeatView) : Type 0 where
  pub worker : seat.part.worker < shape.workers
  pub here : parts seat.part.worker ≡ seat.part

-- There is a world at the end in which each seat has its worker's part, and no two seats are of one worker. Its words
-- were appended to the first list, and the entries of all seats to the second.
pub record ServiceIsGathered (shape : Shape) (seats : List SeatView) (words_before : List ℕ)
    (entries_before : List Entry) (words_after : List ℕ) (entries_after : List Entry) : Type 0 where
  pub words : List ℕ
  pub parts : ℕ → Part
  pub history : List Entry
  pub world : ServiceInvariant shape words parts history
  pub given : (k : ℕ) (seat : SeatView) → slice_get seats k ≡ Some seat → SeatHasWorkersPart shape parts seat
  pub apart : (worker : ℕ) → worker < shape.workers → seat_count_of_worker worker seats ≤ 1
  pub bank : words_after ≡ words_before ++ words_of_table shape words
  pub entries : entries_after ≡ entries_before ++ entries_given seats
