-- The conditions on the words of one worker, by the nodes that it holds and its last entry.
use Rattle.std.specs.Prelude.{◌≡◌, ◌≢◌, ℕ, ◌+◌, ◌<◌, ◌≤◌, true, false, List, slice_get, Option, Some, None}
use Rattle.rme_words.specs.declared.shape.Shape.{Shape}
use Rattle.rme_words.specs.declared.address.Address.{Address}
use Rattle.rme_tree.specs.Nodes.{held_levels_in}
use Rattle.rme_program.specs.declared.note.Entry.{Entry}
use Rattle.rme_program.specs.Steps.{withdrawn_place}
use Rattle.rme_machine.specs.Views.{WorkerWords, worker_words, is_pending, current_lock}
use Rattle.rme_machine.specs.Invariant.{SlateHasJob}
use Rattle.rme_core_image_check.specs.LastEntryLists.{last_number}

-- At most one job is begun and not done, and at most as many are begun as the shape allows.
pub record WorkerNumbersAreValid (shape : Shape) (own : WorkerWords) : Type 0 where
  pub done : own.done ≤ own.begun
  pub begun : own.begun ≤ own.done + 1
  pub few : own.begun ≤ shape.jobs

-- A worker that holds a node of a lock has begun a job, and is at that lock.
abbrev pub HeldLockIsCurrent : WorkerWords → (ℕ → ℕ) → ℕ → Type 0
HeldLockIsCurrent own held lock = 0 < held lock → (0 < own.begun) × (current_lock own ≡ lock)

abbrev pub HeldLocksAreCurrent : Shape → WorkerWords → (ℕ → ℕ) → Type 0
HeldLocksAreCurrent shape own held = (lock : ℕ) → lock < shape.locks → HeldLockIsCurrent own held lock

-- While a job is pending, its slate has a job of the shape.
abbrev pub PendingJobIsValid : Shape → WorkerWords → Type 0
PendingJobIsValid shape own = is_pending own ≡ true → SlateHasJob shape own

-- The receipt words are those of an entry.
pub record IsReceiptOfEntry (own : WorkerWords) (e : Entry) : Type 0 where
  pub number : e.receipt.number ≡ own.done
  pub reply : own.reply ≡ e.receipt.reply
  pub place : own.place ≡ e.receipt.place
  pub at : own.at ≡ e.receipt.lock

abbrev pub IsReceiptOfLastEntry : WorkerWords → Option Entry → Type 0
IsReceiptOfLastEntry own None = ⊥
IsReceiptOfLastEntry own (Some e) = IsReceiptOfEntry own e

-- A withdrawn number is not that of the last entry, and the other receipt words have a lock and no reply.
pub record IsWithdrawnReceipt (shape : Shape) (own : WorkerWords) (last : Option Entry) : Type 0 where
  pub no_entry : last_number last ≢ own.done
  pub reply : own.reply ≡ 0
  pub at : own.at < shape.locks

-- The receipt words of a worker that has begun no job.
pub record ReceiptIsBlank (own : WorkerWords) : Type 0 where
  pub reply : own.reply ≡ 0
  pub place : own.place ≡ 0
  pub at : own.at ≡ 0

-- The receipt words, by the worker's last entry. They may have any values while a job is pending.
pub record ReceiptIsValid (shape : Shape) (own : WorkerWords) (last : Option Entry) : Type 0 where
  pub numbered : last_number last ≤ own.done
  pub withdrawn : is_pending own ≡ false → 0 < own.begun → own.place ≡ withdrawn_place
      → IsWithdrawnReceipt shape own last
  pub receipt : is_pending own ≡ false → 0 < own.begun → own.place ≢ withdrawn_place → IsReceiptOfLastEntry own last
  pub blank : own.begun ≡ 0 → ReceiptIsBlank own

-- All these conditions. If the numbers of the worker's entries also rise, up to that of the last, they are the
-- invariant's.
pub record WorkerIsValid (shape : Shape) (own : WorkerWords) (held : ℕ → ℕ) (last : Option Entry) : Type 0 where
  pub numbers : WorkerNumbersAreValid shape own
  pub stakes : HeldLocksAreCurrent shape own held
  pub pending : PendingJobIsValid shape own
  pub receipt : ReceiptIsValid shape own last

-- All workers are valid, by the list of their last entries.
abbrev pub WorkersAreValid : Shape → (Address → ℕ) → List (Option Entry) → Type 0
WorkersAreValid shape memory last_entries =
    (worker : ℕ) (last : Option Entry) → worker < shape.workers → slice_get last_entries worker ≡ Some last
    → WorkerIsValid shape (worker_words memory worker) (held_levels_in shape memory worker) last
