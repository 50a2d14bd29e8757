-- A handle, and the answers of the call that makes one.
use Rattle.std.specs.Prelude.{◌≡◌, ◌≢◌, ◌⊎◌, ℕ, ◌<◌, ◌≤◌, true}
use Rattle.rme_words.specs.declared.shape.Shape.{Shape}
use Rattle.rme_words.specs.Shapes.{IsWithinLimits}
use Rattle.rme_process_abi.specs.declared.handle.Handle.{Handle}
use Rattle.rme_process_core.specs.Workers.{IsCoreWorker, WorkerRestarted}

-- The handle has a worker.
pub record IsLiveHandle (handle : Handle) : Type 0 where
  pub live : handle.live ≡ true
  pub worker : IsCoreWorker handle.value

-- The numbers by which C names a shape.
pub record ShapeNumbers : Type 0 where
  pub workers : ℕ
  pub locks : ℕ
  pub cells : ℕ
  pub jobs : ℕ

abbrev pub shape_numbers : ℕ → ℕ → ℕ → ℕ → ShapeNumbers
shape_numbers workers locks cells jobs = record { workers = workers; locks = locks; cells = cells; jobs = jobs }

-- There is a shape of these numbers.
abbrev pub AreShapeNumbers : ShapeNumbers → Type 0
AreShapeNumbers numbers = IsWithinLimits numbers.workers numbers.locks numbers.cells numbers.jobs

-- The shape has these numbers.
pub record HasShapeNumbers (numbers : ShapeNumbers) (shape : Shape) : Type 0 where
  pub has_workers : shape.workers ≡ numbers.workers
  pub has_locks : shape.locks ≡ numbers.locks
  pub has_cells : shape.cells ≡ numbers.cells
  pub has_jobs : shape.jobs ≡ numbers.jobs

-- NEW: a worker, about to recover, of the shape of these numbers (0); or there is no such shape (5), no such worker
-- (6), or no memory (20).
pub record AbiNewCall (numbers : ShapeNumbers) (worker : ℕ) (before : Handle) (result : ℕ) (after : Handle) : Type 0
  where
    pub answers : (result ≡ 0) ⊎ ((result ≡ 5) ⊎ ((result ≡ 6) ⊎ (result ≡ 20)))
    pub live : result ≡ 0 → IsLiveHandle after
    pub shape : result ≡ 0 → HasShapeNumbers numbers after.value.shape
    pub restarted : result ≡ 0 → WorkerRestarted after.value.shape worker after.value
    pub bad_shape : result ≡ 5 → AreShapeNumbers numbers → ⊥
    pub good_shape : result ≢ 5 → AreShapeNumbers numbers
    pub no_worker : result ≡ 6 → numbers.workers ≤ worker
    pub some_worker : result ≢ 5 → result ≢ 6 → worker < numbers.workers
    pub unchanged : result ≢ 0 → after ≡ before
