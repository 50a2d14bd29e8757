-- A transcript is checked line by line.
use Rattle.std.proofs.Common.{◌≡◌, ◌≢◌, ℕ, suc, List, [], ◌∷◌, true, false, Option, Some, None, Result, Ok, Err, IfOk, refl, sym, ap, subst, ◌∙◌, arith, ◌+◌}
use Rattle.rme_words.specs.declared.refusal.NoMemory.{NoMemory}
use Rattle.rme_words.specs.declared.shape.Shape.{Shape}
use Rattle.rme_machine.specs.Machine.{MachineState}
use Rattle.rme_line_text.specs.declared.event.EventLine.{EventLine}
use Rattle.rme_wire.specs.declared.opening.Opening.{Opening}
use Rattle.rme_wire.specs.declared.request.Request.{Request}
use Rattle.rme_wire.specs.declared.request.Request.TheVariants.{Load, Open, World}
use Rattle.rme_line_io.specs.declared.cut.Cut.{Cut}
use Rattle.rme_line_io.specs.declared.cut.Cut.TheVariants.{Line, TooLong, End}
use Rattle.rme_line_io.specs.declared.fault.EngineFault.{EngineFault}
use Rattle.rme_line_io.specs.Cuts.{input_line_of}
use Rattle.rme_line_io.specs.Pieces.{InputLine, lines_of, text}
use Rattle.rme_core_checker.specs.Views.{MachineView}
use Rattle.rme_line_check.specs.declared.check.Verdict.{Verdict}
use Rattle.rme_line_check.specs.declared.check.Verdict.TheVariants.{Yes, No, Bad}
use Rattle.rme_line_check.specs.declared.judge.LineFinding.TheVariants.{Step, NoStep, NoEvent}
use Rattle.rme_line_check.specs.declared.judge.Judge.{Judge}
use Rattle.rme_line_check.specs.Judging.{IsJudgeOfLine, IsLineFinding, OptionalEventFinding, IsJudgeOfOpening, RemainingLinesVerdict}
use Rattle.rme_wire.specs.Openings.{IsGoodOpening}
use Rattle.rme_line_io.specs.LineRuns.{AreInputLines, FirstLineCut, NoLineLeft}
use Rattle.rme_wire.specs.Requests.{request_read}
use Rattle.rme_line_check.specs.Verdicts.{InputVerdict, LinesVerdict, LineVerdict, event_read}

-- ---- the first line

abbrev opening_of : Opening → Option Request → Opening
opening_of other (Some (Open given)) = given
opening_of other (Some (Load loading)) = other
opening_of other (Some (World command)) = other
opening_of other None = other

same_opening : (given other : Opening) (request : Option Request) → request ≡ Some (Open given) → request ≡ Some (Open other) → given ≡ other
same_opening given other request e f = ap (opening_of given) (sym e ∙ f)

-- the machine of an opening that is read from a line is the one that its judge has
pub opened : (line : InputLine) (given : Opening) (result : Result (Option Judge) NoMemory) → request_read [] line ≡ Some (Open given) → IfOk result (IsJudgeOfOpening given) → IfOk result (IsJudgeOfLine line)
opened line given (Ok None) e bad =
    λ other f good. let P : Opening → Type 0 = λ g. IsGoodOpening g in bad (subst P (sym (same_opening given other (request_read [] line) e f)) good)
opened line given (Ok (Some judge)) e (good, names, as_given, state) = ((given, e, good, names, as_given), state)
opened line given (Err refused) e is = tt

-- a line that is not too long is its text
pub text_read : (cut : Cut) (line : List ℕ) → cut ≢ TooLong → input_line_of cut line ≡ text line
text_read Line line short = refl
text_read TooLong line short = absurd (short refl)
text_read End line short = refl

-- ---- the remaining lines

-- the remaining lines exist, whether or not the reader's bytes are known
pub some_lines : (left : Option (List ℕ)) → (lines : List InputLine) × AreInputLines left lines
some_lines None = ([], tt)
some_lines (Some bytes) = (lines_of bytes, refl)

-- a line was cut off
pub lines_more : (left later : Option (List ℕ)) (line : InputLine) (lines : List InputLine) → FirstLineCut left later line → AreInputLines later lines → AreInputLines left (line ∷ lines)
lines_more None later line lines c a = tt
lines_more (Some before) None line lines c a = absurd c
lines_more (Some before) (Some after) line lines c a = c ∙ ap (λ (ls : List InputLine). line ∷ ls) a

pub lines_none : (left : Option (List ℕ)) → NoLineLeft left → AreInputLines left []
lines_none None n = tt
lines_none (Some bytes) n = n

-- no line is left
pub judged_all : (names : List (List ℕ)) (machine : MachineView) (number : ℕ) (left : Option (List ℕ)) → NoLineLeft left → RemainingLinesVerdict names machine number left Yes
unfolding LinesVerdict
judged_all names machine number left none = ([], lines_none left none, refl)

-- the event of a line, if it has one, decides
met : (line : InputLine) (names : List (List ℕ)) (shape : Shape) (state : MachineState) (number : ℕ) (lines : List InputLine) (verdict : Verdict)
    → LineVerdict (λ new. LinesVerdict names shape new (suc number) lines verdict) shape state number (event_read names line) verdict → LinesVerdict names shape state number (line ∷ lines) verdict
unfolding LinesVerdict
met line names shape state number lines verdict meets = meets

-- a line is no event line
no_event : (event : Option EventLine) (rest : MachineState → Type 0) (old new : MachineView) (number : ℕ) → OptionalEventFinding event old NoEvent new → LineVerdict rest old.shape old.state number event (Bad number)
no_event None rest old new number found = refl
no_event (Some line) rest old new number found = absurd found

pub judged_bad : (names : List (List ℕ)) (old new : MachineView) (number : ℕ) (left later : Option (List ℕ)) (line : InputLine) → FirstLineCut left later line → IsLineFinding names old line NoEvent new
    → RemainingLinesVerdict names old number left (Bad number)
judged_bad names old new number left later line cuts found =
    let some = some_lines later in (
      line ∷ some.0,
      lines_more left later line some.0 cuts some.1,
      met line names old.shape old.state number some.0 (Bad number) (no_event (event_read names line) (λ state. LinesVerdict names old.shape state (suc number) some.0 (Bad number)) old new number found),
    )

-- the machine does not have the step of a line
no_step : (event : Option EventLine) (rest : MachineState → Type 0) (old new : MachineView) (number : ℕ) → OptionalEventFinding event old NoStep new → LineVerdict rest old.shape old.state number event (No number)
no_step None rest old new number found = absurd (let bad : NoStep ≡ NoEvent = found.0 in cc)
no_step (Some line) rest old new number found = (false, new.state, found, refl)

pub judged_no : (names : List (List ℕ)) (old new : MachineView) (number : ℕ) (left later : Option (List ℕ)) (line : InputLine) → FirstLineCut left later line → IsLineFinding names old line NoStep new
    → RemainingLinesVerdict names old number left (No number)
judged_no names old new number left later line cuts found =
    let some = some_lines later in (
      line ∷ some.0,
      lines_more left later line some.0 cuts some.1,
      met line names old.shape old.state number some.0 (No number) (no_step (event_read names line) (λ state. LinesVerdict names old.shape state (suc number) some.0 (No number)) old new number found),
    )

-- the machine made the step of a line, and the other lines decide
step : (event : Option EventLine) (rest : MachineState → Type 0) (old new : MachineView) (number : ℕ) (verdict : Verdict) → OptionalEventFinding event old Step new → rest new.state
    → LineVerdict rest old.shape old.state number event verdict
step None rest old new number verdict found more = absurd (let bad : Step ≡ NoEvent = found.0 in cc)
step (Some line) rest old new number verdict found more = (true, new.state, found.0, more)

pub same_shape : (event : Option EventLine) (old new : MachineView) → OptionalEventFinding event old Step new → new.shape ≡ old.shape
same_shape None old new found = absurd (let bad : Step ≡ NoEvent = found.0 in cc)
same_shape (Some line) old new found = found.1

judged_step : (names : List (List ℕ)) (old new : MachineView) (number : ℕ) (left later : Option (List ℕ)) (line : InputLine) (verdict : Verdict) → FirstLineCut left later line → IsLineFinding names old line Step new
    → RemainingLinesVerdict names new (suc number) later verdict → RemainingLinesVerdict names old number left verdict
judged_step names old new number left later line verdict cuts found (lines, are, judges) =
    let P : Shape → Type 0 = λ s. LinesVerdict names s new.state (suc number) lines verdict in
    let more = subst P (same_shape (event_read names line) old new found) judges in (
      line ∷ lines,
      lines_more left later line lines cuts are,
      met line names old.shape old.state number lines verdict (step (event_read names line) (λ state. LinesVerdict names old.shape state (suc number) lines verdict) old new number verdict found more),
    )

-- ---- the loop

-- the verdict on the remaining lines is that on all
abbrev pub Leads : List (List ℕ) → MachineView → Option (List ℕ) → List (List ℕ) → MachineView → ℕ → Option (List ℕ) → Type 0
Leads names first input now machine number left = (verdict : Verdict) → RemainingLinesVerdict now machine number left verdict → RemainingLinesVerdict names first 2 input verdict

pub leads_first : (names : List (List ℕ)) (machine : MachineView) (input : Option (List ℕ)) → Leads names machine input names machine 2 input
leads_first names machine input verdict judges = judges

pub leads_more : (names now after : List (List ℕ)) (first old new : MachineView) (number next : ℕ) (input left later : Option (List ℕ)) (line : InputLine) → Leads names first input now old number left
    → FirstLineCut left later line → IsLineFinding now old line Step new → after ≡ now → next ≡ number + 1 → Leads names first input after new next later
leads_more names now after first old new number next input left later line leads cuts found same e verdict judges =
    let P : List (List ℕ) → Type 0 = λ ns. RemainingLinesVerdict ns new next later verdict in
    let Q : ℕ → Type 0 = λ n. RemainingLinesVerdict now new n later verdict in
    let one : next ≡ suc number = e ∙ omega arith in leads verdict (judged_step now old new number left later line verdict cuts found (subst Q one (subst P same judges)))

-- ---- the whole transcript

-- the first line opens nothing
pub found_closed : (input later : Option (List ℕ)) (line : InputLine) → FirstLineCut input later line → IsJudgeOfLine line None → InputVerdict input (Bad 1)
found_closed input later line cuts closed = let some = some_lines later in (line ∷ some.0, lines_more input later line some.0 cuts some.1, (None, closed, refl))

-- the lines after an opening decide
pub found_judged : (input later : Option (List ℕ)) (line : InputLine) (judge : Judge) (verdict : Verdict) → FirstLineCut input later line → IsJudgeOfLine line (Some judge)
    → RemainingLinesVerdict judge.names judge.machine 2 later verdict → InputVerdict input verdict
found_judged input later line judge verdict cuts (opens, state) (lines, are, judges) =
    let P : MachineState → Type 0 = λ s. LinesVerdict judge.names judge.machine.shape s 2 lines verdict in
    (line ∷ lines, lines_more input later line lines cuts are, (Some (judge.names, judge.machine.shape), opens, subst P state judges))

-- the same for a result
pub found_by : (input later : Option (List ℕ)) (line : InputLine) (judge : Judge) (result : Result Verdict EngineFault) → FirstLineCut input later line → IsJudgeOfLine line (Some judge)
    → IfOk result (RemainingLinesVerdict judge.names judge.machine 2 later) → IfOk result (InputVerdict input)
found_by input later line judge (Ok verdict) cuts has judges = found_judged input later line judge verdict cuts has judges
found_by input later line judge (Err fault) cuts has judges = tt
