-- The verdict on a transcript. Its first line opens the abstract machine, and each further line is an event with its
-- answer, whose step the machine has or has not.
use Rattle.std.specs.Prelude.{◌≡◌, ℕ, suc, List, [], ◌∷◌, Bool, true, false, Option, Some, None}
use Rattle.rme_words.specs.declared.shape.Shape.{Shape}
use Rattle.rme_machine.specs.Labels.{event_label}
use Rattle.rme_machine.specs.Machine.{MachineState, opening_state}
use Rattle.rme_line_text.specs.declared.event.EventLine.{EventLine}
use Rattle.rme_line_text.specs.Events.{line_answer, line_event}
use Rattle.rme_wire.specs.declared.opening.Opening.{Opening}
use Rattle.rme_wire.specs.declared.request.Request.TheVariants.{Open}
use Rattle.rme_line_check.specs.EventLines.{event_of_line}
use Rattle.rme_line_io.specs.Pieces.{InputLine, text, too_long}
use Rattle.rme_core_checker.specs.Admitting.{AdmitDecision}
use Rattle.rme_line_check.specs.declared.check.Verdict.{Verdict}
use Rattle.rme_line_check.specs.declared.check.Verdict.TheVariants.{Yes, No, Bad}
use Rattle.rme_wire.specs.Openings.{ShapeIsAsGiven, IsGoodOpening}
use Rattle.rme_line_io.specs.LineRuns.{AreInputLines}
use Rattle.rme_wire.specs.Requests.{request_read}

-- the opening of a first line: a shape, with these names of its locks; none if it is no opening of a valid shape
abbrev pub FirstLineOpens : InputLine → Option (List (List ℕ) × Shape) → Type 0
FirstLineOpens line None = (given : Opening) → request_read [] line ≡ Some (Open given) → ¬ IsGoodOpening given
FirstLineOpens line (Some (names, shape)) =
    (given : Opening) × (request_read [] line ≡ Some (Open given)) × IsGoodOpening given × (names ≡ given.locks)
    × ShapeIsAsGiven given shape

-- the event of a line, if it is an event line
abbrev pub event_read : List (List ℕ) → InputLine → Option EventLine
event_read names too_long = None
event_read names (text bytes) = event_of_line names bytes

-- the machine's decision on a line's event and its answer
abbrev pub LineAdmitted : Shape → EventLine → Bool → MachineState → MachineState → Type 0
LineAdmitted shape line admitted old new =
    AdmitDecision shape (event_label (line_event line) (line_answer line)) admitted old new

-- the verdict on one line: it is no event line, or the machine does not have the step, or the other lines decide
abbrev pub StepVerdict : (MachineState → Type 0) → ℕ → Bool → MachineState → Verdict → Type 0
StepVerdict rest number true new verdict = rest new
StepVerdict rest number false new verdict = verdict ≡ No number

abbrev pub LineVerdict : (MachineState → Type 0) → Shape → MachineState → ℕ → Option EventLine → Verdict → Type 0
LineVerdict rest shape old number None verdict = verdict ≡ Bad number
LineVerdict rest shape old number (Some line) verdict =
    (admitted : Bool) × (new : MachineState) × LineAdmitted shape line admitted old new
    × StepVerdict rest number admitted new verdict

-- the verdict on the lines from this one on, with the number of the first of them
unfoldable pub LinesVerdict : List (List ℕ) → Shape → MachineState → ℕ → List InputLine → Verdict → Type 0
LinesVerdict names shape old number [] verdict = verdict ≡ Yes
LinesVerdict names shape old number (line ∷ lines) verdict =
    LineVerdict (λ new. LinesVerdict names shape new (suc number) lines verdict) shape old number
    (event_read names line) verdict

-- the verdict on the lines after the first, from its opening
abbrev pub VerdictAfterOpening : Option (List (List ℕ) × Shape) → List InputLine → Verdict → Type 0
VerdictAfterOpening None lines verdict = verdict ≡ Bad 1
VerdictAfterOpening (Some (names, shape)) lines verdict = LinesVerdict names shape (opening_state shape) 2 lines verdict

-- THE VERDICT ON A TRANSCRIPT. Lines are numbered from 1; an empty transcript is bad at line 1.
abbrev pub TranscriptVerdict : List InputLine → Verdict → Type 0
TranscriptVerdict [] verdict = verdict ≡ Bad 1
TranscriptVerdict (line ∷ lines) verdict =
    (opened : Option (List (List ℕ) × Shape)) × FirstLineOpens line opened × VerdictAfterOpening opened lines verdict

-- the verdict on all lines of an input
abbrev pub InputVerdict : Option (List ℕ) → Verdict → Type 0
InputVerdict input verdict = (lines : List InputLine) × AreInputLines input lines × TranscriptVerdict lines verdict
