-- Growth: a checkpoint of a larger shape shows what was there as it was, and what is new as unused.
use Rattle.std.specs.Prelude.{◌≡◌, ℕ, ◌+◌, ◌<◌, ◌≤◌, List, [], get_or, Some, None, slice_get}
use Rattle.rme_words.specs.declared.shape.Shape.{Shape}
use Rattle.rme_tree.specs.Nodes.{owner_in}
use Rattle.rme_history.specs.Legal.{rows_of_locks}
use Rattle.rme_world.specs.WorldViews.{WorldView, world_memory}
use Rattle.rme_session_world.specs.Downs.{IsWorkerDown}
use Rattle.rme_session_world.specs.ExecutorStates.{ExecutorState}
use Rattle.rme_durable_format.specs.Lives.{life_of}
use Rattle.rme_durable_checkpoint.specs.Checkpoints.{EachShowsSame, IsClientLast}
use Rattle.rme_durable_epochs.specs.ClientValues.{client_number, next_client_place, pending_job_of}
use Rattle.rme_durable_epochs.specs.declared.epoch_base.Base.{Base}

-- A shape has at least the numbers of another one.
pub record IsLargerShape (small large : Shape) : Type 0 where
  pub workers : small.workers ≤ large.workers
  pub locks : small.locks ≤ large.locks
  pub cells : small.cells ≤ large.cells
  pub jobs : small.jobs ≤ large.jobs

-- Two shapes have the same numbers.
pub record HaveSameSizes (one other : Shape) : Type 0 where
  pub workers : other.workers ≡ one.workers
  pub locks : other.locks ≡ one.locks
  pub cells : other.cells ≡ one.cells
  pub jobs : other.jobs ≡ one.jobs

-- A cell of some rows; 0 if they do not have it.
abbrev pub row_cell : List (List ℕ) → ℕ → ℕ → ℕ
row_cell rows lock cell = get_or (get_or rows lock []) cell 0

-- The value that the finished scripts left in a cell; 0 if there is no such cell.
abbrev pub finished_cell : WorldView → ℕ → ℕ → ℕ
finished_cell seen = row_cell (rows_of_locks seen.shape seen.history)

-- A worker is new: it is down, no session has it, and it never had a job.
pub record IsNewWorker (base : Base) (after : ExecutorState) (worker : ℕ) : Type 0 where
  pub down : IsWorkerDown after.world worker
  pub free : slice_get after.holders worker ≡ Some None
  pub idle : pending_job_of after.world worker ≡ None
  pub number : client_number base after.world worker ≡ 0
  pub last : IsClientLast base after.world worker None

-- A lock is new: it is free, and no section of it was finished.
pub record IsNewLock (base : Base) (after : ExecutorState) (lock : ℕ) : Type 0 where
  pub free : owner_in after.world.shape (world_memory after.world) lock ≡ None
  pub unused : next_client_place base after.world lock ≡ 0

-- A world of a larger shape. Of the workers and locks that the earlier world has each shows the same, the same sessions
-- have the same workers, and the finished scripts left the same cells; each further worker and lock is new, and each
-- further cell is 0.
pub record GrowthShowsSame (base : Base) (before : ExecutorState) (later : Base) (after : ExecutorState) : Type 0 where
  pub larger : IsLargerShape before.world.shape after.world.shape
  pub holders : (worker : ℕ) → worker + 1 < before.world.shape.workers
      → slice_get after.holders worker ≡ slice_get before.holders worker
  pub each : EachShowsSame base before later after
  pub cells : (lock cell : ℕ) → lock < after.world.shape.locks → cell < after.world.shape.cells
      → finished_cell after.world lock cell ≡ finished_cell before.world lock cell
  pub workers : (worker : ℕ) → before.world.shape.workers ≤ worker + 1 → worker + 1 < after.world.shape.workers
      → IsNewWorker later after worker
  pub locks : (lock : ℕ) → before.world.shape.locks ≤ lock → lock < after.world.shape.locks
      → IsNewLock later after lock

-- Each worker was restarted as often as before; a new one never was.
abbrev pub KeepsLives : List ℕ → List ℕ → Type 0
KeepsLives before after = (worker : ℕ) → life_of after worker ≡ life_of before worker
