-- The phase in which a worker is drawn, from the machine's state of it and its last line; and when that is its section.
use Rattle.std.specs.Prelude.{ℕ, Bool, true, false}
use Rattle.rme_program.specs.declared.note.Note.{Note}
use Rattle.rme_program.specs.declared.note.Note.TheVariants as note
use Rattle.rme_line_text.specs.declared.event.EventLine.{EventLine}
use Rattle.rme_line_text.specs.declared.event.EventLine.TheVariants as line
use Rattle.rme_machine.specs.declared.stance.JobStance.{JobStance}
use Rattle.rme_machine.specs.declared.stance.JobStance.TheVariants.{Idle, Handed, Waiting, Inside, Finished}
use Rattle.rme_machine.specs.Machine.{WorkerState}
use Rattle.rme_draw_picture.specs.declared.drawn_phase.DrawnPhase.{DrawnPhase}
use Rattle.rme_draw_picture.specs.declared.drawn_phase.DrawnPhase.TheVariants as phase

abbrev pub is_inside_stance : JobStance → Bool
is_inside_stance Idle = false
is_inside_stance (Handed job) = false
is_inside_stance (Waiting k job) = false
is_inside_stance (Inside k job) = true
is_inside_stance (Finished k job) = false

-- the worker is inside and has entered since its last restart
abbrev pub has_entered_with : Bool → JobStance → Bool
has_entered_with true stance = is_inside_stance stance
has_entered_with false stance = false

-- the worker is up, is inside with an unfinished job, and has entered since its last restart
abbrev pub is_up_inside : Bool → Bool → JobStance → Bool
is_up_inside true entered stance = has_entered_with entered stance
is_up_inside false entered stance = false

abbrev pub is_in_section : WorkerState → Bool
is_in_section me = is_up_inside me.up me.entered me.stance

-- the phase is one of a worker that is up, and owns no lock or has not found that it does
abbrev pub is_without_lock : DrawnPhase → Bool
is_without_lock phase.Ready = true
is_without_lock phase.Post = true
is_without_lock phase.Enter = true
is_without_lock phase.Section = false
is_without_lock phase.Exit = true
is_without_lock phase.Recover = true
is_without_lock phase.Down = false

-- ---- the phase after a line

-- the phases in order
abbrev pub drawn_phase_rank : DrawnPhase → ℕ
drawn_phase_rank phase.Ready = 0
drawn_phase_rank phase.Post = 1
drawn_phase_rank phase.Enter = 2
drawn_phase_rank phase.Section = 3
drawn_phase_rank phase.Exit = 4
drawn_phase_rank phase.Recover = 5
drawn_phase_rank phase.Down = 6

-- after a quiet step a worker that recovers or leaves still does so
abbrev pub phase_after_quiet : DrawnPhase → DrawnPhase → DrawnPhase
phase_after_quiet phase.Ready other = other
phase_after_quiet phase.Post other = other
phase_after_quiet phase.Enter other = other
phase_after_quiet phase.Section other = other
phase_after_quiet phase.Exit other = phase.Exit
phase_after_quiet phase.Recover other = phase.Recover
phase_after_quiet phase.Down other = other

-- a worker that waits for its lock is in Enter, unless it recovers or withdraws its job
abbrev pub waiting_phase_after_note : Note → DrawnPhase → DrawnPhase
waiting_phase_after_note note.Quiet before = phase_after_quiet before phase.Enter
waiting_phase_after_note (note.Asked number) before = phase.Enter
waiting_phase_after_note note.Blocked before = phase.Enter
waiting_phase_after_note (note.Entered lock) before = phase.Enter
waiting_phase_after_note (note.Reentered lock) before = phase.Enter
waiting_phase_after_note (note.Finished receipt) before = phase.Enter
waiting_phase_after_note (note.Left lock) before = phase.Enter
waiting_phase_after_note note.Ready before = phase_after_quiet before phase.Enter
waiting_phase_after_note (note.Withdrew number) before = phase.Enter

abbrev pub waiting_phase_after : EventLine → DrawnPhase → DrawnPhase
waiting_phase_after (line.Submit handed) before = phase.Enter
waiting_phase_after (line.Crash worker) before = phase.Enter
waiting_phase_after (line.Restart worker) before = phase.Recover
waiting_phase_after (line.Withdraw worker) before = phase.Exit
waiting_phase_after (line.Note worker noted) before = waiting_phase_after_note noted before

-- a worker that left its lock, or withdrew its job, has nodes to release if there are more than two workers
abbrev pub phase_after_leaving : Bool → DrawnPhase
phase_after_leaving true = phase.Ready
phase_after_leaving false = phase.Exit

abbrev pub idle_phase_after_note : Note → Bool → DrawnPhase → DrawnPhase
idle_phase_after_note note.Quiet are_few before = phase_after_quiet before phase.Ready
idle_phase_after_note (note.Asked number) are_few before = phase.Ready
idle_phase_after_note note.Blocked are_few before = phase.Ready
idle_phase_after_note (note.Entered lock) are_few before = phase.Ready
idle_phase_after_note (note.Reentered lock) are_few before = phase.Ready
idle_phase_after_note (note.Finished receipt) are_few before = phase.Ready
idle_phase_after_note (note.Left lock) are_few before = phase_after_leaving are_few
idle_phase_after_note note.Ready are_few before = phase.Ready
idle_phase_after_note (note.Withdrew number) are_few before = phase_after_leaving are_few

abbrev pub idle_phase_after : EventLine → Bool → DrawnPhase → DrawnPhase
idle_phase_after (line.Submit handed) are_few before = phase.Ready
idle_phase_after (line.Crash worker) are_few before = phase.Ready
idle_phase_after (line.Restart worker) are_few before = phase.Recover
idle_phase_after (line.Withdraw worker) are_few before = phase.Ready
idle_phase_after (line.Note worker noted) are_few before = idle_phase_after_note noted are_few before

-- a worker that owns its lock recovers after a crash until it has re-entered
abbrev pub owner_phase : Bool → DrawnPhase → DrawnPhase
owner_phase true other = other
owner_phase false other = phase.Recover

abbrev pub phase_of_up_worker : EventLine → Bool → DrawnPhase → Bool → JobStance → DrawnPhase
phase_of_up_worker event_line are_few before entered Idle = idle_phase_after event_line are_few before
phase_of_up_worker event_line are_few before entered (Handed job) = phase.Post
phase_of_up_worker event_line are_few before entered (Waiting k job) = waiting_phase_after event_line before
phase_of_up_worker event_line are_few before entered (Inside k job) = owner_phase entered phase.Section
phase_of_up_worker event_line are_few before entered (Finished k job) = owner_phase entered phase.Exit

abbrev pub phase_if_up : Bool → DrawnPhase → DrawnPhase
phase_if_up true up = up
phase_if_up false up = phase.Down

-- THE PHASE OF A WORKER with this state in the machine after a line of it, and the given phase before the line;
-- `are_few` says whether there are at most two workers
abbrev pub phase_after : EventLine → Bool → DrawnPhase → WorkerState → DrawnPhase
phase_after event_line are_few before me =
    phase_if_up me.up (phase_of_up_worker event_line are_few before me.entered me.stance)
