-- Paths through a lock's tree, the part of its path that a worker holds, the lock's owner, and the worker that blocks
-- another.
--
-- The nodes are 1 .. leaves - 1 in heap order: the parent of a node is its half, and a worker's leaf is leaves +
-- worker. `words` gives the word of each node: 0, or the side of the child that holds it.
use Rattle.std.specs.Prelude.{◌≡◌, ◌≢◌, ℕ, zero, suc, ◌+◌, ◌-◌, ◌/◌, ◌%◌, ◌^◌, ◌<◌, ◌≤◌, Bool, ◌==◌, ◌&&◌, if◌then◌else◌, Option, Some, None}
use Rattle.std.specs.Option.{option_or}

-- The node of a worker's path at a level: its leaf at level 0, and above it the parent of the one below.
unfoldable pub node : ℕ → ℕ → ℕ → ℕ
node leaves worker level = (leaves + worker) / 2 ^ level

-- The side by which the path comes to its node at a level: 1 from an even child, 2 from an odd one.
unfoldable pub side : ℕ → ℕ → ℕ → ℕ
side leaves worker level = 1 + node leaves worker (level - 1) % 2

-- The nodes of the worker's path at the levels 1 .. levels all have the worker's sides.
abbrev pub OwnsUpTo : (ℕ → ℕ) → ℕ → ℕ → ℕ → Type 0
OwnsUpTo words leaves worker levels =
    (i : ℕ) → i < levels → words (node leaves worker (suc i)) ≡ side leaves worker (suc i)

-- `levels` is the greatest number, up to the height, of levels that all have the worker's sides.
pub record IsHeldLevels (words : ℕ → ℕ) (leaves worker height levels : ℕ) : Type 0 where
  pub within : levels ≤ height
  pub own : OwnsUpTo words leaves worker levels
  pub ends : levels < height → words (node leaves worker (suc levels)) ≢ side leaves worker (suc levels)

-- That number: the number of levels that the worker holds.
unfoldable pub held_levels : (ℕ → ℕ) → ℕ → ℕ → ℕ → ℕ
held_levels words leaves worker zero = 0
held_levels words leaves worker (suc n) =
    if (held_levels words leaves worker n == n) && (words (node leaves worker (suc n)) == side leaves worker (suc n))
    then suc n else held_levels words leaves worker n

-- A worker owns the lock if all nodes of its path have its sides.
abbrev pub OwnsTree : (ℕ → ℕ) → ℕ → ℕ → ℕ → Type 0
OwnsTree words leaves height worker = OwnsUpTo words leaves worker height

-- A worker holds a node: its path passes the node, and it holds its path up to there, that node included.
pub record HoldsNode (words : ℕ → ℕ) (leaves height worker place : ℕ) : Type 0 where
  pub level : ℕ
  pub is_level : level < height
  pub there : node leaves worker (suc level) ≡ place
  pub own : OwnsUpTo words leaves worker (suc level)

-- The blocker of a worker: it holds the node above the levels that this worker holds, which are not all.
abbrev pub Blocks : (ℕ → ℕ) → ℕ → ℕ → ℕ → ℕ → Type 0
Blocks words leaves height other worker =
    (held_levels words leaves worker height < height)
    × HoldsNode words leaves height other (node leaves worker (suc (held_levels words leaves worker height)))

-- The first number below a bound that passes a test.
abbrev pub first_number_passing : ℕ → (ℕ → Bool) → Option ℕ
first_number_passing zero test = None
first_number_passing (suc n) test = option_or (first_number_passing n test) (if test n then Some n else None)

-- The owner among the workers.
unfoldable pub owner : (ℕ → ℕ) → ℕ → ℕ → ℕ → Option ℕ
owner words leaves height workers =
    first_number_passing workers (λ worker. held_levels words leaves worker height == height)
