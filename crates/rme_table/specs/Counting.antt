-- The answer of a close with counts: each lock as in a close, with the number of its entries.
use Rattle.std.specs.Prelude.{◌≡◌, ℕ, ◌+◌, ◌/◌, ◌%◌, ◌<◌, ◌≤◌, Bool, true, false, List, [], length, slice_get, vec_capacity, Some}
use Rattle.rme_words.specs.declared.shape.Shape.{Shape}
use Rattle.rme_words.specs.declared.address.Address.TheVariants.{Turn}
use Rattle.rme_words.specs.Words.{Memory, memory_of, word_count}
use Rattle.rme_tree.specs.Nodes.{owner_in}
use Rattle.rme_program.specs.declared.note.Entry.{Entry}
use Rattle.rme_machine.specs.Histories.{history_of_lock, HistoryIsLegal}
use Rattle.rme_machine.specs.Machine.{MachineState}
use Rattle.rme_machine.specs.AbstractCells.{AbstractCells, state_owner, is_lock_settled}
use Rattle.rme_machine.specs.Views.{lock_words}
use Rattle.rme_service_steps.specs.declared.seat_record.Part.{Part}
use Rattle.rme_service_steps.specs.Rule.{ServiceInvariant, table_memory}
use Rattle.rme_service_steps.specs.SeatViews.{ServiceId, SeatView}
use Rattle.rme_service_steps.specs.Closing.{SeatHasWorkersPart}
use Rattle.rme_table.specs.declared.closed.CountedLock.{CountedLock}
use Rattle.rme_table.specs.declared.closed.Unclosed.{Unclosed}
use Rattle.rme_table.specs.Downs.{all_given}
use Rattle.rme_table.specs.Filling.{is_lock_settled_by_words}
use Rattle.rme_table.specs.Closing.{IsUnclosed, abstract_state_of_parts}

-- An empty lock has room for its cells, and there is one for each lock.
pub record LockHasCountRoom (shape : Shape) (room : CountedLock) : Type 0 where
  pub no_cells : room.cells.items ≡ []
  pub cells : shape.cells ≤ vec_capacity room.cells

pub record LocksHaveCountRoom (shape : Shape) (rooms : List CountedLock) : Type 0 where
  pub count : length rooms ≡ shape.locks
  pub each : (lock : ℕ) (room : CountedLock) → slice_get rooms lock ≡ Some room → LockHasCountRoom shape room

-- All the room of a close with counts, for a service of this shape.
pub record IsCountRoom (shape : Shape) (own_words : List ℕ) (word_room : ℕ) (own_seats : List SeatView) (seat_room : ℕ)
    (rooms : List CountedLock) : Type 0 where
  pub no_words : own_words ≡ []
  pub words : word_count shape ≤ word_room
  pub no_seats : own_seats ≡ []
  pub seats : shape.workers ≤ seat_room
  pub locks : LocksHaveCountRoom shape rooms

-- The number of finished sections, from the turn of a lock that is settled or not.
abbrev pub finished_by_turn : Bool → ℕ → ℕ
finished_by_turn true turn = turn / 2 + turn % 2
finished_by_turn false turn = turn / 2

-- The lock is filled from the words.
pub record IsCountFilled (memory : Memory) (lock : ℕ) (counted : CountedLock) : Type 0 where
  pub cells : counted.cells.items ≡ (lock_words memory.shape (memory_of memory) lock).cells
  pub owner : counted.owner ≡ owner_in memory.shape (memory_of memory) lock
  pub settled : counted.settled ≡ is_lock_settled_by_words (memory_of memory)
      (owner_in memory.shape (memory_of memory) lock)
  pub finished : counted.entries ≡ finished_by_turn counted.settled (memory_of memory (Turn lock))

-- A lock's cells, its owner and whether it is settled are as in a close; and its entries are counted.
pub record IsCountedLock (shape : Shape) (words : List ℕ) (state : MachineState) (lock : ℕ) (counted : CountedLock) :
    Type 0 where
  pub cells : counted.cells.items ≡ (lock_words shape (table_memory shape words) lock).cells
  pub as_shown : AbstractCells shape state lock counted.cells.items
  pub owner : counted.owner ≡ state_owner state lock
  pub settled : counted.settled ≡ is_lock_settled state lock
  pub entries : counted.entries ≡ length (history_of_lock state.history lock)

-- All workers were given. There is a world in which each part is its worker's, with a legal history; and each lock is
-- as in that world.
pub record IsCountedService (shape : Shape) (downs : List SeatView) (locks : List CountedLock) : Type 0 where
  pub words : List ℕ
  pub parts : ℕ → Part
  pub history : List Entry
  pub world : ServiceInvariant shape words parts history
  pub given : (k : ℕ) (down : SeatView) → slice_get downs k ≡ Some down → SeatHasWorkersPart shape parts down
  pub all : all_given shape downs ≡ true
  pub legal : HistoryIsLegal shape history
  pub count : length locks ≡ shape.locks
  pub each : (lock : ℕ) (counted : CountedLock) → slice_get locks lock ≡ Some counted
      → IsCountedLock shape words (abstract_state_of_parts shape words parts history) lock counted

-- The service and all given Downs come back unchanged: a worker is missing, or there are more Downs than workers.
pub record IsUncounted (ident : ServiceId) (downs : List SeatView) (unclosed : Unclosed) : Type 0 where
  pub back : IsUnclosed ident downs unclosed
  pub many : all_given ident.shape downs ≡ true → ident.shape.workers < length downs
