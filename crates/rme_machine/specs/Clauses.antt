-- The clauses of an image from `nodes` to `entries`: of the nodes, the workers and the locks of a memory, and of the
-- entries of a history. If no worker has a private state, they say the same as the invariant.
use Rattle.std.specs.Prelude.{◌≡◌, ◌≢◌, ◌⊎◌, ℕ, ◌+◌, ◌*◌, ◌<◌, ◌≤◌, true, List, take, replicate, slice_get, slice_index, Option, Some, None}
use Rattle.rme_words.specs.declared.shape.Shape.{Shape}
use Rattle.rme_words.specs.declared.address.Address.{Address}
use Rattle.rme_tree.specs.HeldTrees.{IsLocalTree}
use Rattle.rme_tree.specs.Nodes.{lock_nodes, held_levels_in, owner_in}
use Rattle.rme_script.specs.declared.op.Op.{Op}
use Rattle.rme_script.specs.Cells.{mask_has_cell}
use Rattle.rme_script.specs.Programs.{Program}
use Rattle.rme_script.specs.Scripts.{IsScript}
use Rattle.rme_script.specs.Slates.{IsSlate}
use Rattle.rme_script.specs.Eval.{eval_of}
use Rattle.rme_program.specs.declared.note.Entry.{Entry}
use Rattle.rme_program.specs.Steps.{withdrawn_place}
use Rattle.rme_machine.specs.Histories.{history_of_lock, place_of, row_after_entries, lock_row, numbers_of_worker, NumbersRise, HistoryIsLegal}
use Rattle.rme_machine.specs.Views.{WorkerWords, LockWords, worker_words, lock_words, slate_job}
use Rattle.rme_machine.specs.Invariant.{MaskCoversOps, IsOwnersLastEntry, IsWithdrawnNumber, IsLastReceiptWords}

-- `nodes`: each node word is 0, 1 or 2; a word other than 0 names a side whose child is a worker's leaf, or a node that
-- is not 0.
abbrev pub NodesClause : Shape → (Address → ℕ) → Type 0
NodesClause shape memory =
    (lock : ℕ) → lock < shape.locks → IsLocalTree (lock_nodes memory lock) shape.leaves shape.workers

-- `one lock each`: each worker holds nodes in at most one lock.
abbrev pub OneLockEachClause : Shape → (ℕ → ℕ) → Type 0
OneLockEachClause shape held =
    (one other : ℕ) → one < shape.locks → other < shape.locks → 0 < held one → 0 < held other → one ≡ other

-- `numbers`, for one worker. If it holds a node, it is at that node's lock: the receipt's lock if no job is pending,
-- and otherwise the slate's.
pub record NumbersClause (shape : Shape) (own : WorkerWords) (held : ℕ → ℕ) : Type 0 where
  pub done : own.done ≤ own.begun
  pub begun : own.begun ≤ own.done + 1
  pub few : own.begun ≤ shape.jobs
  pub some : (lock : ℕ) → lock < shape.locks → 0 < held lock → 0 < own.begun
  pub past : (lock : ℕ) → lock < shape.locks → 0 < held lock → own.done ≡ own.begun → own.at ≡ lock
  pub pending : (lock : ℕ) → lock < shape.locks → 0 < held lock → own.done < own.begun → own.slate_lock ≡ lock

-- `slate`, for one worker with a pending job: its lock, and the words of its operations.
pub record SlateClause (shape : Shape) (own : WorkerWords) : Type 0 where
  pub lock : own.slate_lock < shape.locks
  pub script : Program
  pub words : IsSlate own.slate_len own.slate script
  pub within : IsScript shape.cells script

-- `entries`, for one worker.
pub record EntriesClause (shape : Shape) (own : WorkerWords) (history : List Entry) (worker : ℕ) : Type 0 where
  pub numbered : NumbersRise 0 own.done (numbers_of_worker history worker)
  pub withdrawn : own.done ≡ own.begun → 0 < own.begun → own.place ≡ withdrawn_place
      → IsWithdrawnNumber shape own history worker
  pub receipt : own.done ≡ own.begun → 0 < own.begun → own.place ≢ withdrawn_place
      → IsLastReceiptWords own history worker
  pub blank : own.begun ≡ 0 → (own.reply ≡ 0) × (own.place ≡ 0) × (own.at ≡ 0)

-- The fold of the first entries of a lock.
abbrev pub row_before_place : Shape → List Entry → ℕ → ℕ → List ℕ
row_before_place shape history lock place =
    row_after_entries (replicate shape.cells 0) (take place (history_of_lock history lock)) lock

-- `turn`, for a lock with p entries: 2p if there is no owner; 2p or 2p + 1 if the owner is inside; 2p - 1 or 2p if the
-- owner has finished, and then the lock's last entry is that of the owner's last job.
abbrev pub TurnClause : LockWords → List Entry → ℕ → Option ℕ → (ℕ → WorkerWords) → Type 0
TurnClause lock history number None owns = lock.turn ≡ 2 * place_of history number
TurnClause lock history number (Some owner) owns =
    ((owns owner).done < (owns owner).begun
    → (lock.turn ≡ 2 * place_of history number) ⊎ (lock.turn ≡ 2 * place_of history number + 1))
    × ((owns owner).done ≡ (owns owner).begun
    → ((lock.turn + 1 ≡ 2 * place_of history number) ⊎ (lock.turn ≡ 2 * place_of history number))
    × ((last : Entry) × IsOwnersLastEntry history number owner (owns owner).done last))

-- The mask has only cells of the lock, among them all that section q's script names. The shadow words of its cells and
-- the shadow reply are those of that script on the fold of the first q entries.
pub record IsSectionShadow (shape : Shape) (lock : LockWords) (history : List Entry) (number q : ℕ) (ops : List Op) :
    Type 0 where
  pub mask : MaskCoversOps shape lock.mask ops
  pub shadows : (c : ℕ) → mask_has_cell lock.mask c ≡ true
      → slice_index lock.shadows c ≡ slice_index (eval_of ops (row_before_place shape history number q)).row c
  pub reply : lock.shadow_reply ≡ (eval_of ops (row_before_place shape history number q)).reply

-- `shadow`, for a lock with an owner: if the turn is 2q + 1, section q is the owner's pending job, or the entry at
-- place q if the owner has finished.
abbrev pub ShadowClause : Shape → LockWords → List Entry → ℕ → WorkerWords → Type 0
ShadowClause shape lock history number own =
    (q : ℕ) → lock.turn ≡ 2 * q + 1
    → (own.done < own.begun → IsSectionShadow shape lock history number q (slate_job own).script.ops)
    × (own.done ≡ own.begun
    → (e : Entry) × (slice_get (history_of_lock history number) q ≡ Some e)
    × IsSectionShadow shape lock history number q e.script.ops)

-- `cells`, for a lock with an owner: if the owner is inside and the turn is odd, each cell has its value in the rows or
-- after the owner's script on them. Otherwise the cells are the rows.
pub record CellsClause (shape : Shape) (lock : LockWords) (history : List Entry) (number : ℕ) (own : WorkerWords) : Type
    0 where
  pub copying : own.done < own.begun → lock.turn ≡ 2 * place_of history number + 1 → (c : ℕ) → c < shape.cells
      → (slice_index lock.cells c ≡ slice_index (lock_row shape history number) c)
      ⊎ (slice_index lock.cells c ≡ slice_index (eval_of (slate_job own).script.ops (lock_row shape history number)).row
      c)
  pub finished : own.done ≡ own.begun → lock.cells ≡ lock_row shape history number
  pub settled : lock.turn ≢ 2 * place_of history number + 1 → lock.cells ≡ lock_row shape history number

-- `shadow` and `cells` of a lock: if there is no owner, the turn is even and the cells are the rows.
abbrev pub ShadowAndCellsClause : Shape → LockWords → List Entry → ℕ → Option ℕ → (ℕ → WorkerWords) → Type 0
ShadowAndCellsClause shape lock history number None owns = lock.cells ≡ lock_row shape history number
ShadowAndCellsClause shape lock history number (Some owner) owns =
    ShadowClause shape lock history number (owns owner) × CellsClause shape lock history number (owns owner)

-- All these clauses. `legal` has the rest of `entries`, the places and the replies, and what `header` requires of an
-- entry: a worker, a lock and a script of the shape.
pub record IsValidMemory (shape : Shape) (memory : Address → ℕ) (history : List Entry) : Type 0 where
  pub nodes : NodesClause shape memory
  pub one_lock_each : (worker : ℕ) → worker < shape.workers
      → OneLockEachClause shape (held_levels_in shape memory worker)
  pub numbers : (worker : ℕ) → worker < shape.workers
      → NumbersClause shape (worker_words memory worker) (held_levels_in shape memory worker)
  pub slate : (worker : ℕ) → worker < shape.workers
      → (worker_words memory worker).done < (worker_words memory worker).begun
      → SlateClause shape (worker_words memory worker)
  pub entries : (worker : ℕ) → worker < shape.workers → EntriesClause shape (worker_words memory worker) history worker
  pub legal : HistoryIsLegal shape history
  pub turn : (lock : ℕ) → lock < shape.locks
      → TurnClause (lock_words shape memory lock) history lock (owner_in shape memory lock) (worker_words memory)
  pub rows : (lock : ℕ) → lock < shape.locks
      → ShadowAndCellsClause shape (lock_words shape memory lock) history lock (owner_in shape memory lock)
      (worker_words memory)
