-- The last entries of a history, and when the numbers of each worker's entries rise.
use Rattle.std.specs.Prelude.{◌≡◌, ℕ, ◌+◌, ◌<◌, List, map, take, slice_get, Option, Some, None}
use Rattle.std.specs.List.{range_with_len}
use Rattle.rme_words.specs.declared.shape.Shape.{Shape}
use Rattle.rme_program.specs.declared.note.Entry.{Entry}
use Rattle.rme_machine.specs.Histories.{last_entry_of_lock, last_entry_of_worker}

-- The number of a worker's last entry; 0 if it has none.
abbrev pub last_number : Option Entry → ℕ
last_number None = 0
last_number (Some e) = e.receipt.number

-- The place of a lock's next section: one more than that of its last entry; 0 if it has none.
abbrev pub next_place : Option Entry → ℕ
next_place None = 0
next_place (Some e) = e.receipt.place + 1

-- An entry may follow the earlier ones: its worker and its lock are of the shape, and its number is above those of its
-- worker's earlier entries.
pub record EntryMayFollow (shape : Shape) (earlier : List Entry) (e : Entry) : Type 0 where
  pub worker : e.receipt.worker < shape.workers
  pub lock : e.receipt.lock < shape.locks
  pub above : last_number (last_entry_of_worker earlier e.receipt.worker) < e.receipt.number

-- The entry at an index of a list may follow those before it.
abbrev pub EntryMayFollowAt : Shape → List Entry → ℕ → Type 0
EntryMayFollowAt shape entries i = (e : Entry) → slice_get entries i ≡ Some e → EntryMayFollow shape (take i entries) e

-- Each entry of a list may follow those before it.
abbrev pub EntryNumbersRise : Shape → List Entry → Type 0
EntryNumbersRise shape entries = (i : ℕ) → EntryMayFollowAt shape entries i

-- The last entries of all workers and of all locks, in order.
pub record AreLastEntries (shape : Shape) (entries : List Entry) (by_worker at_lock : List (Option Entry)) : Type 0
  where
    pub workers : by_worker ≡ map (λ (worker : ℕ). last_entry_of_worker entries worker) (range_with_len 0 shape.workers)
    pub locks : at_lock ≡ map (λ (lock : ℕ). last_entry_of_lock entries lock) (range_with_len 0 shape.locks)
