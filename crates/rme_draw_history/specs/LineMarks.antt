-- The event of a line of a transcript, for its worker.
use Rattle.std.specs.Prelude.{ℕ, Bool, true, false, Option, Some, None, List, [], ◌∷◌}
use Rattle.rme_program.specs.declared.note.Note.{Note}
use Rattle.rme_program.specs.declared.note.Note.TheVariants as note
use Rattle.rme_line_text.specs.declared.event.EventLine.{EventLine}
use Rattle.rme_line_text.specs.declared.event.EventLine.TheVariants as line
use Rattle.rme_draw_picture.specs.declared.mark_kind.MarkKind.{MarkKind}
use Rattle.rme_draw_picture.specs.declared.mark_kind.MarkKind.TheVariants as mark
use Rattle.rme_draw_picture.specs.declared.drawing.Mark.{Mark}

-- a blocked worker's mark has its blocker, if that is known
abbrev pub mark_kind_of_note : Note → Option ℕ → Option MarkKind
mark_kind_of_note note.Quiet blocker = None
mark_kind_of_note (note.Asked number) blocker = Some (mark.Asked number)
mark_kind_of_note note.Blocked blocker = Some (mark.Blocked blocker)
mark_kind_of_note (note.Entered lock) blocker = Some mark.Entered
mark_kind_of_note (note.Reentered lock) blocker = Some mark.Reentered
mark_kind_of_note (note.Finished receipt) blocker = Some (mark.Finished receipt.number)
mark_kind_of_note (note.Left lock) blocker = Some mark.Left
mark_kind_of_note note.Ready blocker = Some mark.Ready
mark_kind_of_note (note.Withdrew number) blocker = Some (mark.Withdrew number)

-- a quiet step has no mark
abbrev pub mark_kind_of : EventLine → Option ℕ → Option MarkKind
mark_kind_of (line.Submit handed) blocker = Some (mark.Submit handed.number)
mark_kind_of (line.Crash worker) blocker = Some mark.Crash
mark_kind_of (line.Restart worker) blocker = Some mark.Restart
mark_kind_of (line.Withdraw worker) blocker = Some mark.Withdraw
mark_kind_of (line.Note worker noted) blocker = mark_kind_of_note noted blocker

abbrev pub line_worker : EventLine → ℕ
line_worker (line.Submit handed) = handed.worker
line_worker (line.Crash worker) = worker
line_worker (line.Restart worker) = worker
line_worker (line.Withdraw worker) = worker
line_worker (line.Note worker noted) = worker

-- the job number of a line, or 0
abbrev pub line_job_number : EventLine → ℕ
line_job_number (line.Submit handed) = handed.number
line_job_number (line.Crash worker) = 0
line_job_number (line.Restart worker) = 0
line_job_number (line.Withdraw worker) = 0
line_job_number (line.Note worker noted) = 0

-- the mark of a line, if it has one
abbrev pub marks_by : Option MarkKind → ℕ → ℕ → List Mark
marks_by None worker at = []
marks_by (Some what) worker at = record { line = at; worker = worker; kind = what } ∷ []

abbrev pub marks_at : EventLine → Option ℕ → ℕ → List Mark
marks_at event_line blocker at = marks_by (mark_kind_of event_line blocker) (line_worker event_line) at

-- the line, if by it the worker withdrew its job
abbrev pub withdrawal_line_of_note : Note → ℕ → Option ℕ
withdrawal_line_of_note note.Quiet at = None
withdrawal_line_of_note (note.Asked number) at = None
withdrawal_line_of_note note.Blocked at = None
withdrawal_line_of_note (note.Entered lock) at = None
withdrawal_line_of_note (note.Reentered lock) at = None
withdrawal_line_of_note (note.Finished receipt) at = None
withdrawal_line_of_note (note.Left lock) at = None
withdrawal_line_of_note note.Ready at = None
withdrawal_line_of_note (note.Withdrew number) at = Some at

abbrev pub withdrawal_line : EventLine → ℕ → Option ℕ
withdrawal_line (line.Submit handed) at = None
withdrawal_line (line.Crash worker) at = None
withdrawal_line (line.Restart worker) at = None
withdrawal_line (line.Withdraw worker) at = None
withdrawal_line (line.Note worker noted) at = withdrawal_line_of_note noted at

-- whether by a note the worker became ready
abbrev pub is_ready_note : Note → Bool
is_ready_note note.Quiet = false
is_ready_note (note.Asked number) = false
is_ready_note note.Blocked = false
is_ready_note (note.Entered lock) = false
is_ready_note (note.Reentered lock) = false
is_ready_note (note.Finished receipt) = false
is_ready_note (note.Left lock) = false
is_ready_note note.Ready = true
is_ready_note (note.Withdrew number) = false

abbrev pub is_ready_line : EventLine → Bool
is_ready_line (line.Submit handed) = false
is_ready_line (line.Crash worker) = false
is_ready_line (line.Restart worker) = false
is_ready_line (line.Withdraw worker) = false
is_ready_line (line.Note worker noted) = is_ready_note noted
