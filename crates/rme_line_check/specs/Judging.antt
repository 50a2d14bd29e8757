-- How the lines of a transcript are checked in order.
use Rattle.std.specs.Prelude.{◌≡◌, ℕ, List, true, false, Option, Some, None}
use Rattle.rme_machine.specs.Machine.{opening_state}
use Rattle.rme_line_text.specs.declared.event.EventLine.{EventLine}
use Rattle.rme_wire.specs.declared.opening.Opening.{Opening}
use Rattle.rme_line_io.specs.Pieces.{InputLine}
use Rattle.rme_core_checker.specs.Views.{MachineView}
use Rattle.rme_line_check.specs.declared.check.Verdict.{Verdict}
use Rattle.rme_line_check.specs.declared.judge.LineFinding.{LineFinding}
use Rattle.rme_line_check.specs.declared.judge.LineFinding.TheVariants.{Step, NoStep, NoEvent}
use Rattle.rme_line_check.specs.declared.judge.Judge.{Judge}
use Rattle.rme_wire.specs.Openings.{ShapeIsAsGiven, IsGoodOpening}
use Rattle.rme_line_io.specs.LineRuns.{AreInputLines}
use Rattle.rme_line_check.specs.Verdicts.{LineAdmitted, LinesVerdict, FirstLineOpens, event_read}

-- the judge of an opening: its names, and the initial machine; none if its shape is not valid
abbrev pub IsJudgeOfOpening : Opening → Option Judge → Type 0
IsJudgeOfOpening given None = ¬ IsGoodOpening given
IsJudgeOfOpening given (Some judge) =
    IsGoodOpening given × (judge.names ≡ given.locks) × ShapeIsAsGiven given judge.machine.shape
    × (judge.machine.state ≡ opening_state judge.machine.shape)

-- the judge of a first line
abbrev pub IsJudgeOfLine : InputLine → Option Judge → Type 0
IsJudgeOfLine line None = FirstLineOpens line None
IsJudgeOfLine line (Some judge) =
    FirstLineOpens line (Some (judge.names, judge.machine.shape))
    × (judge.machine.state ≡ opening_state judge.machine.shape)

-- the machine's finding on an event line
abbrev pub EventFinding : MachineView → EventLine → LineFinding → MachineView → Type 0
EventFinding old line Step new = LineAdmitted old.shape line true old.state new.state × (new.shape ≡ old.shape)
EventFinding old line NoStep new = LineAdmitted old.shape line false old.state new.state
EventFinding old line NoEvent new = ⊥

-- the finding on a line, from its event, if it has one
abbrev pub OptionalEventFinding : Option EventLine → MachineView → LineFinding → MachineView → Type 0
OptionalEventFinding None old found new = (found ≡ NoEvent) × (new ≡ old)
OptionalEventFinding (Some line) old found new = EventFinding old line found new

abbrev pub IsLineFinding : List (List ℕ) → MachineView → InputLine → LineFinding → MachineView → Type 0
IsLineFinding names old line found new = OptionalEventFinding (event_read names line) old found new

-- the verdict on the remaining lines, with the number of the first of them
abbrev pub RemainingLinesVerdict : List (List ℕ) → MachineView → ℕ → Option (List ℕ) → Verdict → Type 0
RemainingLinesVerdict names machine number left verdict =
    (lines : List InputLine) × AreInputLines left lines
    × LinesVerdict names machine.shape machine.state number lines verdict
