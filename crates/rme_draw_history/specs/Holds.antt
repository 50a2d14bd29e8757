-- The holds of a picture: a hold of a lock ends where the owner changes, crashes or restarts.
use Rattle.std.specs.Prelude.{ℕ, zero, suc, ◌+◌, ◌==◌, map, Bool, true, false, ◌&&◌, Option, Some, None, List, [], ◌∷◌, ◌++◌, slice_get}
use Rattle.std.specs.List.{range_with_len}
use Rattle.rme_machine.specs.Machine.{WorkerState}
use Rattle.rme_machine.specs.AbstractCells.{state_owner}
use Rattle.rme_core_checker.specs.Views.{MachineView}
use Rattle.rme_draw_picture.specs.declared.drawing.Hold.{Hold}

abbrev pub is_up_if_some : Option WorkerState → Bool
is_up_if_some None = false
is_up_if_some (Some me) = me.up

-- the hold of a lock that begins at a line, if the lock has an owner there
abbrev pub hold_of_owner : Option ℕ → MachineView → ℕ → ℕ → Option Hold
hold_of_owner None machine lock line = None
hold_of_owner (Some owner) machine lock line =
    Some record {
      lock = lock;
      owner = owner;
      is_up = is_up_if_some (slice_get machine.state.workers owner);
      from =
          line;
      to = line;
    }

abbrev pub hold_now : MachineView → ℕ → ℕ → Option Hold
hold_now machine lock line = hold_of_owner (state_owner machine.state lock) machine lock line

abbrev pub is_same_flag : Bool → Bool → Bool
is_same_flag true true = true
is_same_flag true false = false
is_same_flag false true = false
is_same_flag false false = true

-- the same owner, up or down as before, or still none
abbrev pub are_same_hold : Option Hold → Option Hold → Bool
are_same_hold None None = true
are_same_hold None (Some now) = false
are_same_hold (Some before) None = false
are_same_hold (Some before) (Some now) = (before.owner == now.owner) && is_same_flag before.is_up now.is_up

abbrev pub hold_if_same : Bool → Option Hold → Option Hold → Option Hold
hold_if_same true before now = before
hold_if_same false before now = now

-- the hold of a lock after a line
abbrev pub hold_after : MachineView → ℕ → ℕ → Option Hold → Option Hold
hold_after machine line lock before =
    hold_if_same (are_same_hold before (hold_now machine lock line)) before (hold_now machine lock line)

abbrev pub hold_up_to : Option Hold → ℕ → List Hold
hold_up_to None to = []
hold_up_to (Some hold) to =
    record { lock = hold.lock; owner = hold.owner; is_up = hold.is_up; from = hold.from; to = to } ∷ []

abbrev pub holds_unless_same : Bool → Option Hold → ℕ → List Hold
holds_unless_same true before line = []
holds_unless_same false before line = hold_up_to before line

-- the hold that a line ends, if it ends one
abbrev pub ended_hold : MachineView → ℕ → ℕ → Option Hold → List Hold
ended_hold machine line lock before = holds_unless_same (are_same_hold before (hold_now machine lock line)) before line

abbrev pub flat_hold : Option (Option Hold) → Option Hold
flat_hold None = None
flat_hold (Some before) = before

-- the hold of a lock before the line
abbrev pub hold_at : List (Option Hold) → ℕ → Option Hold
hold_at old lock = flat_hold (slice_get old lock)

-- the holds of all locks of the machine after a line
abbrev pub holding_after : MachineView → ℕ → List (Option Hold) → List (Option Hold)
holding_after machine line old =
    map (λ lock. hold_after machine line lock (hold_at old lock)) (range_with_len 0 machine.shape.locks)

-- the holds that a line ends, of this number of locks from this one on
abbrev pub holds_from : MachineView → ℕ → List (Option Hold) → ℕ → ℕ → List Hold
holds_from machine line old lock zero = []
holds_from machine line old lock (suc count) =
    ended_hold machine line lock (hold_at old lock) ++ holds_from machine line old (lock + 1) count

abbrev pub holds_after : MachineView → ℕ → List (Option Hold) → List Hold
holds_after machine line old = holds_from machine line old 0 machine.shape.locks

-- all holds that end with the run
abbrev pub holds_at_end : List (Option Hold) → ℕ → List Hold
holds_at_end [] to = []
holds_at_end (before ∷ all) to = hold_up_to before to ++ holds_at_end all to
