-- The state of a replay after some entries.
use Rattle.std.specs.Prelude.{◌≡◌, ℕ, List, map, take, slice_get, Some}
use Rattle.std.specs.List.{range_with_len}
use Rattle.rme_words.specs.declared.shape.Shape.{Shape}
use Rattle.rme_program.specs.declared.note.Entry.{Entry}
use Rattle.rme_machine.specs.Histories.{place_of, EntryFollows}
use Rattle.rme_history.specs.Legal.{rows_of_locks}

-- The rows of all locks, and the number of entries of each lock.
pub record IsReplayFold (shape : Shape) (earlier : List Entry) (cells : List (List ℕ)) (counts : List ℕ) : Type 0 where
  pub rows : cells ≡ rows_of_locks shape earlier
  pub places : counts ≡ map (λ (lock : ℕ). place_of earlier lock) (range_with_len 0 shape.locks)

-- The entry at an index of a list follows from those before it.
abbrev pub EntryFollowsAt : Shape → List Entry → ℕ → Type 0
EntryFollowsAt shape entries i = (e : Entry) → slice_get entries i ≡ Some e → EntryFollows shape (take i entries) e
