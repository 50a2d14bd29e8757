-- The conditions on the words of one lock, by its owner, its last entry and the fold of its entries.
use Rattle.std.specs.Prelude.{◌≡◌, ℕ, ◌<◌, ◌⊎◌, Bool, true, false, List, length, slice_get, slice_index, Option, Some, None}
use Rattle.rme_words.specs.declared.shape.Shape.{Shape}
use Rattle.rme_words.specs.declared.address.Address.{Address}
use Rattle.rme_tree.specs.Nodes.{owner_in}
use Rattle.rme_script.specs.declared.op.Op.{Op}
use Rattle.rme_script.specs.Cells.{mask_has_cell}
use Rattle.rme_script.specs.Scripts.{IsScript}
use Rattle.rme_program.specs.declared.note.Entry.{Entry}
use Rattle.rme_machine.specs.Views.{WorkerWords, LockWords, worker_words, lock_words, is_pending, slate_job}
use Rattle.rme_machine.specs.Invariant.{MaskCoversOps, IsSettledLock, IsLoggedLock, IsFinishedLock}
use Rattle.rme_core_image_check.specs.LastEntryLists.{next_place}
use Rattle.rme_core_image_check.specs.Workers.{PendingJobIsValid}

-- The mask covers the operations, the shadow words of its cells are those of a row, and the shadow reply is the reply.
pub record IsShadowOfRow (shape : Shape) (lock : LockWords) (ops : List Op) (row : List ℕ) (answer : ℕ) : Type 0 where
  pub mask : MaskCoversOps shape lock.mask ops
  pub shadows : (c : ℕ) → mask_has_cell lock.mask c ≡ true → slice_index lock.shadows c ≡ slice_index row c
  pub reply : lock.shadow_reply ≡ answer

-- The lock's last entry is its owner's last job.
pub record EntryIsLastJobOf (e : Entry) (worker : ℕ) (own : WorkerWords) : Type 0 where
  pub by : e.receipt.worker ≡ worker
  pub under : e.receipt.number ≡ own.done

-- What a lock's entries leave: the row of its cells, the place of its next section, and the last entry.
pub record LockFold : Type 0 where
  pub row : List ℕ
  pub place : ℕ
  pub last : Option Entry

abbrev pub lock_fold : List ℕ → Option Entry → LockFold
lock_fold row last = record { row = row; place = next_place last; last = last }

-- A lock whose owner's job is done, by its last entry.
abbrev pub FinishedLockIsValid : Shape → LockWords → LockFold → Option Entry → ℕ → WorkerWords → Type 0
FinishedLockIsValid shape lock fold None worker own = ⊥
FinishedLockIsValid shape lock fold (Some e) worker own =
    EntryIsLastJobOf e worker own
    × (IsSettledLock lock fold.row fold.place ⊎ IsFinishedLock shape lock fold.row fold.place e)

-- A lock with this owner, whose job is pending or not.
abbrev pub OwnedLockIsValid : Shape → LockWords → LockFold → ℕ → WorkerWords → Bool → Type 0
OwnedLockIsValid shape lock fold worker own true =
    IsSettledLock lock fold.row fold.place ⊎ IsLoggedLock shape lock fold.row fold.place (slate_job own).script
OwnedLockIsValid shape lock fold worker own false = FinishedLockIsValid shape lock fold fold.last worker own

-- A lock with this owner, or with none.
abbrev pub LockIsValid : Shape → LockWords → LockFold → Option ℕ → (ℕ → WorkerWords) → Type 0
LockIsValid shape lock fold None owns = IsSettledLock lock fold.row fold.place
LockIsValid shape lock fold (Some worker) owns =
    OwnedLockIsValid shape lock fold worker (owns worker) (is_pending (owns worker))

-- All locks are valid, by the lists of their rows and of their last entries.
abbrev pub LocksAreValid : Shape → (Address → ℕ) → List (List ℕ) → List (Option Entry) → Type 0
LocksAreValid shape memory rows last_entries =
    (lock : ℕ) (row : List ℕ) (last : Option Entry) → lock < shape.locks → slice_get rows lock ≡ Some row
    → slice_get last_entries lock ≡ Some last
    → LockIsValid shape (lock_words shape memory lock) (lock_fold row last) (owner_in shape memory lock)
    (worker_words memory)

-- A lock's row has the shape's cells, and the script of its last entry fits them.
abbrev pub LastScriptFits : Shape → Option Entry → Type 0
LastScriptFits shape None = Unit {0}
LastScriptFits shape (Some e) = IsScript shape.cells e.script

-- The same for all locks, and each worker's pending job is one of the shape: the preconditions of the tests of locks.
pub record LocksMayBeChecked (shape : Shape) (memory : Address → ℕ) (rows : List (List ℕ))
    (last_entries : List (Option Entry)) : Type 0 where
  pub rows_all : length rows ≡ shape.locks
  pub lasts_all : length last_entries ≡ shape.locks
  pub rows_long : (lock : ℕ) (row : List ℕ) → slice_get rows lock ≡ Some row → length row ≡ shape.cells
  pub scripts : (lock : ℕ) (last : Option Entry) → slice_get last_entries lock ≡ Some last → LastScriptFits shape last
  pub pending : (worker : ℕ) → worker < shape.workers → PendingJobIsValid shape (worker_words memory worker)
