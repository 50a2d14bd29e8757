-- A space that may be created.
use Rattle.std.specs.Prelude.{◌≡◌, ℕ, ◌+◌, ◌≤◌, ◌&&◌, Bool, true, nat_le, List, length, Option, Some, None, if◌then◌else◌}
use Rattle.rme_wire.specs.Openings.{are_lock_names}
use Rattle.rme_words.specs.Shapes.{IsWithinLimits}

-- The name, the names of the locks and the sizes of a new space.
pub record SpaceRequest : Type 0 where
  pub name : List ℕ
  pub locks : List (List ℕ)
  pub workers : ℕ
  pub cells : ℕ

-- 1 to 255 workers, 1 to 16 cells of each lock.
abbrev pub are_possible_sizes : ℕ → ℕ → Bool
are_possible_sizes workers cells = nat_le 1 workers && nat_le workers 255 && nat_le 1 cells && nat_le cells 16

-- The space of a request, if it is possible: 1 to 16 names of locks, each once, and sizes within their limits.
unfoldable pub is_possible : SpaceRequest → Bool
is_possible asked = are_lock_names asked.locks && are_possible_sizes asked.workers asked.cells

abbrev pub possible_space : SpaceRequest → Option SpaceRequest
possible_space asked = if is_possible asked then Some asked else None

-- A shape can have these locks and sizes, with one worker more, which checkpoints need.
pub record IsPossibleSpace (locks : List (List ℕ)) (workers cells : ℕ) : Type 0 where
  pub named : are_lock_names locks ≡ true
  pub some_worker : 1 ≤ workers
  pub within : IsWithinLimits (workers + 1) (length locks) cells 1
