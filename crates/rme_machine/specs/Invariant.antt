-- THE INVARIANT of every world: the clauses of an image from `nodes` to `entries`, and the private invariant of each
-- worker that is up.
use Rattle.std.specs.Prelude.{◌≡◌, ◌≢◌, ◌⊎◌, ℕ, ◌+◌, ◌*◌, ◌<◌, ◌≤◌, Bool, true, false, List, slice_index, Option, Some, None}
use Rattle.rme_words.specs.declared.shape.Shape.{Shape}
use Rattle.rme_words.specs.declared.address.Address.{Address}
use Rattle.rme_tree.specs.HeldTrees.{EveryNodeIsHeld}
use Rattle.rme_tree.specs.Nodes.{lock_nodes, held_levels_in, owner_in}
use Rattle.rme_script.specs.declared.op.Op.{Op}
use Rattle.rme_script.specs.Cells.{mask_has_cell, ops_name_cell}
use Rattle.rme_script.specs.Programs.{Program}
use Rattle.rme_script.specs.Eval.{eval_of}
use Rattle.rme_program.specs.declared.note.Entry.{Entry}
use Rattle.rme_program.specs.declared.private.Private.{Private}
use Rattle.rme_program.specs.Steps.{withdrawn_place}
use Rattle.rme_script.specs.Jobs.{IsJob}
use Rattle.rme_machine.specs.Histories.{place_of, lock_row, last_entry_of_lock, last_entry_of_worker, has_entry, numbers_of_worker, NumbersRise, HistoryIsLegal}
use Rattle.rme_machine.specs.Views.{WorkerWords, LockWords, worker_words, lock_words, is_pending, current_lock, slate_script, slate_job}
use Rattle.rme_machine.specs.Knowledge.{PrivateInvariant}
use Rattle.rme_machine.specs.AbstractState.{Privates}

-- `turn`, `shadow` and `cells`, for the words of one lock. `row` is the fold of the lock's entries, and `place` their
-- number.

-- The turn is even, and the cells are the row.
pub record IsSettledLock (lock : LockWords) (row : List ℕ) (place : ℕ) : Type 0 where
  pub turn : lock.turn ≡ 2 * place
  pub cells : lock.cells ≡ row

-- The mask has only cells of the lock, among them all that the operations name.
pub record MaskCoversOps (shape : Shape) (mask : ℕ) (ops : List Op) : Type 0 where
  pub within : (c : ℕ) → mask_has_cell mask c ≡ true → c < shape.cells
  pub named : (c : ℕ) → ops_name_cell ops c ≡ true → mask_has_cell mask c ≡ true

-- The turn is odd, before the end of the section: the shadow words are whole, and each cell has its value in the row or
-- after the owner's script on it.
pub record IsLoggedLock (shape : Shape) (lock : LockWords) (row : List ℕ) (place : ℕ) (script : Program) : Type 0 where
  pub turn : lock.turn ≡ 2 * place + 1
  pub mask : MaskCoversOps shape lock.mask script.ops
  pub shadows : (c : ℕ) → mask_has_cell lock.mask c ≡ true
      → slice_index lock.shadows c ≡ slice_index (eval_of script.ops row).row c
  pub reply : lock.shadow_reply ≡ (eval_of script.ops row).reply
  pub cells : (c : ℕ) → c < shape.cells
      → (slice_index lock.cells c ≡ slice_index row c)
      ⊎ (slice_index lock.cells c ≡ slice_index (eval_of script.ops row).row c)

-- The turn is still odd, and the section is finished: its entry is the lock's last, and the row includes its effect.
pub record IsFinishedLock (shape : Shape) (lock : LockWords) (row : List ℕ) (place : ℕ) (last : Entry) : Type 0 where
  pub turn : lock.turn + 1 ≡ 2 * place
  pub mask : MaskCoversOps shape lock.mask last.script.ops
  pub shadows : (c : ℕ) → mask_has_cell lock.mask c ≡ true → slice_index lock.shadows c ≡ slice_index row c
  pub reply : lock.shadow_reply ≡ last.receipt.reply
  pub cells : lock.cells ≡ row

-- The lock's last entry is its owner's last job.
pub record IsOwnersLastEntry (history : List Entry) (lock worker done : ℕ) (last : Entry) : Type 0 where
  pub found : last_entry_of_lock history lock ≡ Some last
  pub by : last.receipt.worker ≡ worker
  pub under : last.receipt.number ≡ done

-- The owner of a lock: the worker, and its words.
pub record LockOwner : Type 0 where
  pub worker : ℕ
  pub words : WorkerWords

-- A lock with this owner: the owner is inside while its job is pending, and otherwise has finished.
abbrev pub OwnedLockInvariant : Shape → LockWords → List Entry → ℕ → LockOwner → Bool → Type 0
OwnedLockInvariant shape lock history number owner true =
    IsSettledLock lock (lock_row shape history number) (place_of history number)
    ⊎ IsLoggedLock shape lock (lock_row shape history number) (place_of history number) (slate_job owner.words).script
OwnedLockInvariant shape lock history number owner false =
    (last : Entry) × IsOwnersLastEntry history number owner.worker owner.words.done last
    × (IsSettledLock lock (lock_row shape history number) (place_of history number)
    ⊎ IsFinishedLock shape lock (lock_row shape history number) (place_of history number) last)

abbrev pub LockInvariant : Shape → LockWords → List Entry → ℕ → Option ℕ → (ℕ → WorkerWords) → Type 0
LockInvariant shape lock history number None owns =
    IsSettledLock lock (lock_row shape history number) (place_of history number)
LockInvariant shape lock history number (Some worker) owns =
    OwnedLockInvariant shape lock history number record { worker = worker; words = owns worker }
    (is_pending (owns worker))

-- `numbers`, `slate` and `entries`, for one worker.

-- The job of the slate is one of the shape.
pub record SlateHasJob (shape : Shape) (own : WorkerWords) : Type 0 where
  pub script : Program
  pub slate : slate_script own ≡ Some script
  pub job : IsJob shape (slate_job own)

-- A withdrawn number has no entry, and its receipt words are those of a withdrawal.
pub record IsWithdrawnNumber (shape : Shape) (own : WorkerWords) (history : List Entry) (worker : ℕ) : Type 0 where
  pub no_entry : has_entry history worker own.done ≡ false
  pub reply : own.reply ≡ 0
  pub at : own.at < shape.locks

-- The receipt words are those of the worker's last entry.
pub record IsLastReceiptWords (own : WorkerWords) (history : List Entry) (worker : ℕ) : Type 0 where
  pub last : Entry
  pub found : last_entry_of_worker history worker ≡ Some last
  pub number : last.receipt.number ≡ own.done
  pub reply : own.reply ≡ last.receipt.reply
  pub place : own.place ≡ last.receipt.place
  pub at : own.at ≡ last.receipt.lock

pub record WorkerInvariant (shape : Shape) (own : WorkerWords) (held : ℕ → ℕ) (history : List Entry) (worker : ℕ) : Type
    0 where
  pub done : own.done ≤ own.begun
  pub begun : own.begun ≤ own.done + 1
  pub few : own.begun ≤ shape.jobs
  pub stake : (lock : ℕ) → lock < shape.locks → 0 < held lock → (0 < own.begun) × (current_lock own ≡ lock)
  pub slate : is_pending own ≡ true → SlateHasJob shape own
  pub numbered : NumbersRise 0 own.done (numbers_of_worker history worker)
  pub withdrawn : is_pending own ≡ false → 0 < own.begun → own.place ≡ withdrawn_place
      → IsWithdrawnNumber shape own history worker
  pub receipt : is_pending own ≡ false → 0 < own.begun → own.place ≢ withdrawn_place
      → IsLastReceiptWords own history worker
  pub blank : own.begun ≡ 0 → (own.reply ≡ 0) × (own.place ≡ 0) × (own.at ≡ 0)

-- The invariant over a memory, the private states and a history.
pub record Invariant (shape : Shape) (memory : Address → ℕ) (privates : Privates) (history : List Entry) : Type 0 where
  pub rooted : (lock : ℕ) → lock < shape.locks
      → EveryNodeIsHeld (lock_nodes memory lock) shape.leaves shape.height shape.workers
  pub accounts : (worker : ℕ) → worker < shape.workers
      → WorkerInvariant shape (worker_words memory worker) (held_levels_in shape memory worker) history worker
  pub fits : (worker : ℕ) (private : Private) → worker < shape.workers → privates worker ≡ Some private
      → PrivateInvariant shape (worker_words memory worker) (held_levels_in shape memory worker)
      (lock_words shape memory) worker private
  pub stands : (lock : ℕ) → lock < shape.locks
      → LockInvariant shape (lock_words shape memory lock) history lock (owner_in shape memory lock)
      (worker_words memory)
  pub legal : HistoryIsLegal shape history
