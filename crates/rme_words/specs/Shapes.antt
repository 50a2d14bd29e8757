-- `shape`: the sizes of a lock service, and the sizes of its trees.
use Rattle.std.specs.Prelude.{◌≡◌, ℕ, ◌*◌, ◌^◌, ◌<◌, ◌≤◌}

-- The limits of the numbers that a caller may ask for.
pub record IsWithinLimits (workers locks cells jobs : ℕ) : Type 0 where
  pub some_worker : 1 ≤ workers
  pub few_workers : workers ≤ 256
  pub some_lock : 1 ≤ locks
  pub few_locks : locks ≤ 16
  pub some_cell : 1 ≤ cells
  pub few_cells : cells ≤ 16
  pub some_job : 1 ≤ jobs
  pub few_jobs : jobs ≤ 1000000

-- `leaves` is the least power of two that is at least 2 and at least `workers`; `height` is its logarithm.
pub record IsTree (workers leaves height : ℕ) : Type 0 where
  pub is_power : leaves ≡ 2 ^ height
  pub some_level : 1 ≤ height
  pub few_levels : height ≤ 8
  pub few_leaves : leaves ≤ 256
  pub enough : workers ≤ leaves
  pub least : 1 < height → leaves < 2 * workers

-- A shape: numbers within the limits, and the tree over that many workers.
pub record IsShape (workers locks cells jobs leaves height : ℕ) : Type 0 where
  pub limits : IsWithinLimits workers locks cells jobs
  pub tree : IsTree workers leaves height
