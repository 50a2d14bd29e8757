-- An observer sees the observations of a transcript line by line.
use Rattle.std.proofs.Common.{◌≡◌, ℕ, List, [], ◌∷◌, true, false, Option, Some, None, Result, Ok, Err, IfOk, refl, sym, ap, subst}
use Rattle.rme_words.specs.declared.shape.Shape.{Shape}
use Rattle.rme_machine.specs.Machine.{MachineState, opening_state}
use Rattle.rme_line_text.specs.declared.event.EventLine.{EventLine}
use Rattle.rme_line_io.specs.declared.fault.EngineFault.{EngineFault}
use Rattle.rme_line_io.specs.Pieces.{InputLine}
use Rattle.rme_core_checker.specs.Views.{MachineView}
use Rattle.rme_line_check.specs.declared.check.Verdict.{Verdict}
use Rattle.rme_line_check.specs.declared.judge.LineFinding.{LineFinding}
use Rattle.rme_line_check.specs.declared.judge.LineFinding.TheVariants.{Step, NoStep, NoEvent}
use Rattle.rme_line_check.specs.declared.judge.Judge.{Judge}
use Rattle.rme_line_check.specs.Judging.{IsJudgeOfLine, IsLineFinding, OptionalEventFinding}
use Rattle.rme_line_io.specs.LineRuns.{FirstLineCut, NoLineLeft}
use Rattle.rme_line_check.specs.Observations.{CheckObservation, begins, takes}
use Rattle.rme_line_check.specs.Verdicts.{event_read}
use Rattle.rme_line_check.specs.Observing.{ObserverSeesLine, LineObservations, LinesObservations, ObserverSees, ObserverSeesInput, ObserverSeesRemaining, machine_view_in}
use Rattle.rme_line_check.proofs.JudgeLemmas.{lines_more, lines_none, some_lines, same_shape}

-- ---- the remaining lines

-- no line is left
pub shown_all : {V : Type 0} (sees : V → CheckObservation → V → Type 0) (names : List (List ℕ)) (machine : MachineView) (left : Option (List ℕ)) (watcher : V) → NoLineLeft left → ObserverSeesRemaining sees names machine left watcher watcher
unfolding LinesObservations
shown_all sees names machine left watcher none = ([], [], lines_none left none, refl, refl)

-- the observations of a line's event are those of the lines from it on
shows_on : (line : InputLine) (names : List (List ℕ)) (shape : Shape) (state : MachineState) (lines : List InputLine) (observations : List CheckObservation)
    → LineObservations (λ new later. LinesObservations names shape new lines later) shape state (event_read names line) observations → LinesObservations names shape state (line ∷ lines) observations
unfolding LinesObservations
shows_on line names shape state lines observations shows = shows

-- a line at which the check ends has no observation
abbrev pub Ends : LineFinding → Type 0
Ends Step = ⊥
Ends NoStep = Unit {0}
Ends NoEvent = Unit {0}

shows_none : (event : Option EventLine) (rest : MachineState → List CheckObservation → Type 0) (old new : MachineView) (found : LineFinding) → Ends found → OptionalEventFinding event old found new → LineObservations rest old.shape old.state event []
shows_none None rest old new found ends is = refl
shows_none (Some line) rest old new Step ends is = absurd ends
shows_none (Some line) rest old new NoStep ends is = (false, new.state, is, refl)
shows_none (Some line) rest old new NoEvent ends is = absurd is

kept : {V : Type 0} (sees : V → CheckObservation → V → Type 0) (event : Option EventLine) (machine : MachineView) (found : LineFinding) (before after : V) → Ends found → ObserverSeesLine sees event machine found before after → after ≡ before
kept sees None machine found before after ends shown = shown
kept sees (Some line) machine Step before after ends shown = absurd ends
kept sees (Some line) machine NoStep before after ends shown = shown
kept sees (Some line) machine NoEvent before after ends shown = shown

pub shown_end : {V : Type 0} (sees : V → CheckObservation → V → Type 0) (names : List (List ℕ)) (old new : MachineView) (left later : Option (List ℕ)) (line : InputLine) (found : LineFinding) (before after : V) → Ends found → FirstLineCut left later line
    → IsLineFinding names old line found new → ObserverSeesLine sees (event_read names line) new found before after → ObserverSeesRemaining sees names old left before after
shown_end sees names old new left later line found before after ends cuts is shown =
    let some = some_lines later in (
      line ∷ some.0,
      [],
      lines_more left later line some.0 cuts some.1,
      shows_on line names old.shape old.state some.0 [] (shows_none (event_read names line) (λ state observations. LinesObservations names old.shape state some.0 observations) old new found ends is),
      kept sees (event_read names line) new found before after ends shown,
    )

-- the machine made the step of a line, which was observed, and the others are observed after it
shows_step : {V : Type 0} (sees : V → CheckObservation → V → Type 0) (event : Option EventLine) (rest : MachineState → List CheckObservation → Type 0) (old new : MachineView) (before mid after : V) (later : List CheckObservation) → OptionalEventFinding event old Step new
    → ObserverSeesLine sees event new Step before mid → rest new.state later → ObserverSees sees mid later after
    → (observations : List CheckObservation) × LineObservations rest old.shape old.state event observations × ObserverSees sees before observations after
shows_step sees None rest old new before mid after later is shown more taken = absurd (let bad : Step ≡ NoEvent = is.0 in cc)
shows_step {V = V} sees (Some line) rest old new before mid after later is shown more taken =
    let same : machine_view_in old.shape new.state ≡ new = ap (λ (s : Shape). machine_view_in s new.state) (sym is.1) in
    let P : MachineView → Type 0 = λ m. sees before (takes line m) mid in (
      takes line (machine_view_in old.shape new.state) ∷ later,
      (true, new.state, is.0, (later, more, refl)),
      (mid, subst P (sym same) shown, taken),
    )

pub shown_step : {V : Type 0} (sees : V → CheckObservation → V → Type 0) (names : List (List ℕ)) (old new : MachineView) (left later : Option (List ℕ)) (line : InputLine) (before mid after : V) → FirstLineCut left later line
    → IsLineFinding names old line Step new → ObserverSeesLine sees (event_read names line) new Step before mid → ObserverSeesRemaining sees names new later mid after → ObserverSeesRemaining sees names old left before after
shown_step sees names old new left later line before mid after cuts found shown (lines, observations, are, shows, taken) =
    let P : Shape → Type 0 = λ s. LinesObservations names s new.state lines observations in
    let more = subst P (same_shape (event_read names line) old new found) shows in
    let all = shows_step sees (event_read names line) (λ state later. LinesObservations names old.shape state lines later) old new before mid after observations found shown more taken in
    (line ∷ lines, all.0, lines_more left later line lines cuts are, shows_on line names old.shape old.state lines all.0 all.1, all.2)

-- ---- the loop

-- the observations of the remaining lines complete those of all
abbrev pub ShownOn : {V : Type 0} → (V → CheckObservation → V → Type 0) → List (List ℕ) → MachineView → Option (List ℕ) → V → List (List ℕ) → MachineView → Option (List ℕ) → V → Type 0
ShownOn {V = V} sees names first input start now machine left watcher = (end : V) → ObserverSeesRemaining sees now machine left watcher end → ObserverSeesRemaining sees names first input start end

pub shown_more : {V : Type 0} (sees : V → CheckObservation → V → Type 0) (names now after : List (List ℕ)) (first old new : MachineView) (input left later : Option (List ℕ)) (line : InputLine) (start before mid : V)
    → ShownOn sees names first input start now old left before → FirstLineCut left later line → IsLineFinding now old line Step new → ObserverSeesLine sees (event_read now line) new Step before mid → after ≡ now
    → ShownOn sees names first input start after new later mid
shown_more {V = V} sees names now after first old new input left later line start before mid leads cuts found shown same end watches =
    let P : List (List ℕ) → Type 0 = λ ns. ObserverSeesRemaining sees ns new later mid end in
    leads end (shown_step sees now old new left later line before mid end cuts found shown (subst P same watches))

-- ---- the whole transcript

-- the first line opens nothing
pub shown_closed : {V : Type 0} (sees : V → CheckObservation → V → Type 0) (input later : Option (List ℕ)) (line : InputLine) (watcher : V) → FirstLineCut input later line → IsJudgeOfLine line None → ObserverSeesInput sees input watcher watcher
shown_closed sees input later line watcher cuts closed =
    let some = some_lines later in (line ∷ some.0, [], lines_more input later line some.0 cuts some.1, (None, closed, refl), refl)

-- the opening of the first line was observed, and then the lines after it
pub shown_opened : {V : Type 0} (sees : V → CheckObservation → V → Type 0) (input later : Option (List ℕ)) (line : InputLine) (judge : Judge) (before mid after : V) → FirstLineCut input later line → IsJudgeOfLine line (Some judge)
    → sees before (begins judge.names judge.machine) mid → ObserverSeesRemaining sees judge.names judge.machine later mid after → ObserverSeesInput sees input before after
shown_opened {V = V} sees input later line judge before mid after cuts (opens, state) seen (lines, observations, are, shows, taken) =
    let first = judge.machine.shape in
    let P : MachineState → Type 0 = λ s. LinesObservations judge.names first s lines observations in
    let Q : MachineState → Type 0 = λ s. sees before (begins judge.names (machine_view_in first s)) mid in (
      line ∷ lines,
      begins judge.names (machine_view_in first (opening_state first)) ∷ observations,
      lines_more input later line lines cuts are,
      (Some (judge.names, first), opens, (observations, subst P state shows, refl)),
      (mid, subst Q state seen, taken),
    )

-- the same for a result
pub shown_by : {V : Type 0} (sees : V → CheckObservation → V → Type 0) (input later : Option (List ℕ)) (line : InputLine) (judge : Judge) (before mid after : V) (result : Result Verdict EngineFault) → FirstLineCut input later line
    → IsJudgeOfLine line (Some judge) → sees before (begins judge.names judge.machine) mid → IfOk result (λ _. ObserverSeesRemaining sees judge.names judge.machine later mid after) → IfOk result (λ _. ObserverSeesInput sees input before after)
shown_by sees input later line judge before mid after (Ok verdict) cuts has seen watches = shown_opened sees input later line judge before mid after cuts has seen watches
shown_by sees input later line judge before mid after (Err fault) cuts has seen watches = tt
