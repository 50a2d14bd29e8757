-- The room that a close reserves first, and how each lock is filled.
use Rattle.std.specs.Prelude.{◌≡◌, ℕ, ◌≤◌, Bool, true, not, ◌==◌, if◌then◌else◌, List, [], length, slice_get, vec_capacity, Option, Some, None}
use Rattle.rme_words.specs.declared.shape.Shape.{Shape}
use Rattle.rme_words.specs.declared.address.Address.{Address}
use Rattle.rme_words.specs.Words.{Memory, memory_of, word_count}
use Rattle.rme_tree.specs.Nodes.{owner_in}
use Rattle.rme_program.specs.declared.note.Entry.{Entry}
use Rattle.rme_machine.specs.Histories.{history_of_lock}
use Rattle.rme_machine.specs.Views.{worker_words, lock_words, is_pending}
use Rattle.rme_service_steps.specs.SeatViews.{SeatView}
use Rattle.rme_service_steps.specs.Closing.{entries_given}
use Rattle.rme_table.specs.declared.closed.ClosedLock.{ClosedLock}
use Rattle.rme_table.specs.declared.close_room.CloseRoom.{CloseRoom}

-- An empty lock has room for its cells, and for `count` entries.
pub record LockHasRoom (shape : Shape) (count : ℕ) (room : ClosedLock) : Type 0 where
  pub no_cells : room.cells.items ≡ []
  pub cells : shape.cells ≤ vec_capacity room.cells
  pub no_entries : room.entries.items ≡ []
  pub entries : count ≤ vec_capacity room.entries

-- There is one for each lock, with room for its entries among these.
pub record LocksHaveRoom (shape : Shape) (entries : List Entry) (rooms : List ClosedLock) : Type 0 where
  pub count : length rooms ≡ shape.locks
  pub each : (lock : ℕ) (room : ClosedLock) → slice_get rooms lock ≡ Some room
      → LockHasRoom shape (length (history_of_lock entries lock)) room

-- The entries that are copied to their locks: none for a single lock, which gets the list as it is.
abbrev pub entries_to_copy : Shape → List Entry → List Entry
entries_to_copy shape entries = if shape.locks == 1 then [] else entries

-- All the room that a close of these workers needs.
pub record IsCloseRoom (shape : Shape) (downs : List SeatView) (room : CloseRoom) : Type 0 where
  pub no_words : room.words.items ≡ []
  pub words : word_count shape ≤ vec_capacity room.words
  pub no_history : room.history.items ≡ []
  pub history : length (entries_given downs) ≤ vec_capacity room.history
  pub no_seats : room.seats.items ≡ []
  pub seats : length downs ≤ vec_capacity room.seats
  pub locks : LocksHaveRoom shape (entries_to_copy shape (entries_given downs)) room.locks.items

-- Whether a lock is settled by its words: it has no owner, or its owner's job is done.
abbrev pub is_lock_settled_by_words : (Address → ℕ) → Option ℕ → Bool
is_lock_settled_by_words memory None = true
is_lock_settled_by_words memory (Some worker) = not (is_pending (worker_words memory worker))

-- The lock is filled from the words and the entries.
pub record IsFilledLock (memory : Memory) (entries : List Entry) (lock : ℕ) (closed : ClosedLock) : Type 0 where
  pub cells : closed.cells.items ≡ (lock_words memory.shape (memory_of memory) lock).cells
  pub owner : closed.owner ≡ owner_in memory.shape (memory_of memory) lock
  pub settled : closed.settled ≡ is_lock_settled_by_words (memory_of memory)
      (owner_in memory.shape (memory_of memory) lock)
  pub its_entries : closed.entries.items ≡ history_of_lock entries lock
