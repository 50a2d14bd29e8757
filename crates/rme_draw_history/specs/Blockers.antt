-- The worker that blocks another, as far as the notes of a run show it.
use Rattle.std.specs.Prelude.{ℕ, ◌+◌, ◌-◌, ◌^◌, ◌==◌, min, bit_xor, nat_lt, nat_le, Bool, true, false, not, ◌&&◌, ◌||◌, Option, Some, None, List, [], ◌∷◌, slice_get, slice_set}
use Rattle.rme_program.specs.declared.note.Note.{Note}
use Rattle.rme_program.specs.declared.note.Note.TheVariants as note
use Rattle.rme_line_text.specs.declared.event.EventLine.{EventLine}
use Rattle.rme_line_text.specs.declared.event.EventLine.TheVariants as line
use Rattle.rme_machine.specs.declared.stance.JobStance.{JobStance}
use Rattle.rme_machine.specs.Machine.{WorkerState}
use Rattle.rme_machine.specs.AbstractCells.{state_owner}
use Rattle.rme_core_checker.specs.Views.{MachineView}
use Rattle.rme_draw_history.specs.declared.blockers.PossibleBlockers.{PossibleBlockers}
use Rattle.rme_draw_history.specs.declared.blockers.PossibleBlockers.TheVariants.{Nobody, Only, Several}
use Rattle.rme_draw_history.specs.LineMarks.{line_worker}
use Rattle.rme_draw_history.specs.Stays.{stance_lock}

-- ---- the lock in whose tree a worker may hold nodes

-- in a tree of one level, a worker that left its lock or withdrew its job holds no node
abbrev pub climb_after_leaving : Bool → Option ℕ → Option ℕ
climb_after_leaving true before = None
climb_after_leaving false before = before

abbrev pub climb_after_note : Note → Bool → JobStance → Option ℕ → Option ℕ
climb_after_note note.Quiet are_few stance before = before
climb_after_note (note.Asked number) are_few stance before = stance_lock stance
climb_after_note note.Blocked are_few stance before = before
climb_after_note (note.Entered lock) are_few stance before = before
climb_after_note (note.Reentered lock) are_few stance before = before
climb_after_note (note.Finished receipt) are_few stance before = before
climb_after_note (note.Left lock) are_few stance before = climb_after_leaving are_few before
climb_after_note note.Ready are_few stance before = None
climb_after_note (note.Withdrew number) are_few stance before = climb_after_leaving are_few before

-- from the note that it asked, up to the one that it is ready; a worker that is handed a job was ready
abbrev pub climb_after : EventLine → Bool → JobStance → Option ℕ → Option ℕ
climb_after (line.Submit handed) are_few stance before = None
climb_after (line.Crash worker) are_few stance before = before
climb_after (line.Restart worker) are_few stance before = before
climb_after (line.Withdraw worker) are_few stance before = before
climb_after (line.Note worker noted) are_few stance before = climb_after_note noted are_few stance before

abbrev pub flat_climb : Option (Option ℕ) → Option ℕ
flat_climb None = None
flat_climb (Some lock) = lock

abbrev pub climb_at : List (Option ℕ) → ℕ → Option ℕ
climb_at climbing worker = flat_climb (slice_get climbing worker)

abbrev pub climbing_with : EventLine → Bool → WorkerState → List (Option ℕ) → List (Option ℕ)
climbing_with event_line are_few me climbing =
    slice_set climbing (line_worker event_line)
    (climb_after event_line are_few me.stance (climb_at climbing (line_worker event_line)))

abbrev pub climbing_by : Option WorkerState → EventLine → Bool → List (Option ℕ) → List (Option ℕ)
climbing_by None event_line are_few climbing = climbing
climbing_by (Some me) event_line are_few climbing = climbing_with event_line are_few me climbing

-- the locks of all workers after a line
abbrev pub climbing_after : EventLine → MachineView → List (Option ℕ) → List (Option ℕ)
climbing_after event_line machine climbing =
    climbing_by (slice_get machine.state.workers (line_worker event_line)) event_line
    (nat_le machine.shape.workers 2) climbing

-- ---- the blocker

abbrev pub is_same_lock : Option ℕ → ℕ → Bool
is_same_lock None lock = false
is_same_lock (Some own) lock = own == lock

-- A worker's path meets another's below a third's: the highest bit in which it differs is a lower one.
abbrev pub meets_below : ℕ → ℕ → ℕ → Bool
meets_below other owner worker =
    nat_lt (bit_xor other worker) (bit_xor owner worker) && nat_lt (bit_xor other worker) (bit_xor other owner)

-- the owner holds the nodes from the one on at which its path meets the worker's
abbrev pub is_below_owner : ℕ → ℕ → Option ℕ → Bool
is_below_owner other worker None = true
is_below_owner other worker (Some owner) = (other == owner) || meets_below other owner worker

abbrev pub can_block : Option ℕ → ℕ → ℕ → ℕ → Option ℕ → Bool
can_block climb lock other worker owner =
    not (other == worker) && is_same_lock climb lock && is_below_owner other worker owner

abbrev pub found_if : Bool → PossibleBlockers → ℕ → PossibleBlockers
found_if false found other = found
found_if true Nobody other = Only other
found_if true (Only first) other = Several
found_if true Several other = Several

abbrev pub found_after : PossibleBlockers → ℕ → Bool → PossibleBlockers
found_after found other can_block = found_if can_block found other

abbrev pub only_blocker : PossibleBlockers → Option ℕ
only_blocker Nobody = None
only_blocker (Only other) = Some other
only_blocker Several = None

-- workers are counted by numbers of 32 bits
abbrev pub next_worker : ℕ → ℕ
next_worker other = min (other + 1) (2 ^ 32 - 1)

-- the workers that can block, of those with these locks, the first of which is this one; and those found before
abbrev pub found_among : ℕ → ℕ → Option ℕ → List (Option ℕ) → ℕ → PossibleBlockers → PossibleBlockers
found_among worker lock owner [] other found = found
found_among worker lock owner (climb ∷ climbing) other found =
    found_among worker lock owner climbing (next_worker other)
    (found_after found other (can_block climb lock other worker owner))

-- THE BLOCKER of a worker that waits for a lock: the only worker that can block it
abbrev pub blocker_of : List (Option ℕ) → ℕ → Option ℕ → MachineView → Option ℕ
blocker_of climbing worker None machine = None
blocker_of climbing worker (Some lock) machine =
    only_blocker (found_among worker lock (state_owner machine.state lock) climbing 0 Nobody)

abbrev pub note_blocker : List (Option ℕ) → ℕ → Note → MachineView → Option ℕ
note_blocker climbing worker note.Quiet machine = None
note_blocker climbing worker (note.Asked number) machine = None
note_blocker climbing worker note.Blocked machine = blocker_of climbing worker (climb_at climbing worker) machine
note_blocker climbing worker (note.Entered lock) machine = None
note_blocker climbing worker (note.Reentered lock) machine = None
note_blocker climbing worker (note.Finished receipt) machine = None
note_blocker climbing worker (note.Left lock) machine = None
note_blocker climbing worker note.Ready machine = None
note_blocker climbing worker (note.Withdrew number) machine = None

abbrev pub line_blocker : List (Option ℕ) → EventLine → MachineView → Option ℕ
line_blocker climbing (line.Submit handed) machine = None
line_blocker climbing (line.Crash worker) machine = None
line_blocker climbing (line.Restart worker) machine = None
line_blocker climbing (line.Withdraw worker) machine = None
line_blocker climbing (line.Note worker noted) machine = note_blocker climbing worker noted machine
