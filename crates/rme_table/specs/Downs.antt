-- The values of workers that are down.
use Rattle.std.specs.Prelude.{ℕ, ◌==◌, Bool, true, false, List, [], ◌∷◌, Option, Some, None}
use Rattle.std.specs.List.{list_any, list_all, range_with_len}
use Rattle.rme_script.specs.declared.job.Job.{Job}
use Rattle.rme_program.specs.declared.note.Entry.{Entry}
use Rattle.rme_words.specs.declared.shape.Shape.{Shape}
use Rattle.rme_service_steps.specs.declared.seat_record.Part.{Part}
use Rattle.rme_service_steps.specs.SeatViews.{SeatView}

-- The part has no entry and no draft.
abbrev pub nothing_done : Option Job → List Entry → Bool
nothing_done None [] = true
nothing_done None (entry ∷ entries) = false
nothing_done (Some job) entries = false

abbrev pub is_fresh : Part → Bool
is_fresh part = nothing_done part.draft part.entries

-- A worker is among the given ones; and all workers are.
abbrev pub has_down : List SeatView → ℕ → Bool
has_down downs worker = list_any (λ (down : SeatView). down.part.worker == worker) downs

abbrev pub all_given : Shape → List SeatView → Bool
all_given shape downs = list_all (λ (worker : ℕ). has_down downs worker) (range_with_len 0 shape.workers)
