-- THE OBSERVATIONS OF A CHECK: the opening of the first line, and then in order each line whose step the machine made,
-- with the machine after it. The effect of an observation on an observer is a relation that the observer defines.
use Rattle.std.specs.Prelude.{◌≡◌, List, [], ◌∷◌, ℕ, Bool, true, false, Option, Some, None}
use Rattle.rme_words.specs.declared.shape.Shape.{Shape}
use Rattle.rme_machine.specs.Machine.{MachineState, opening_state}
use Rattle.rme_line_text.specs.declared.event.EventLine.{EventLine}
use Rattle.rme_line_io.specs.Pieces.{InputLine}
use Rattle.rme_core_checker.specs.Views.{MachineView}
use Rattle.rme_line_check.specs.declared.judge.LineFinding.{LineFinding}
use Rattle.rme_line_check.specs.declared.judge.LineFinding.TheVariants.{Step, NoStep, NoEvent}
use Rattle.rme_line_io.specs.LineRuns.{AreInputLines}
use Rattle.rme_line_check.specs.Observations.{CheckObservation, begins, takes}
use Rattle.rme_line_check.specs.Verdicts.{LineAdmitted, FirstLineOpens, event_read}

-- the machine of this shape in this state
abbrev pub machine_view_in : Shape → MachineState → MachineView
machine_view_in shape state = record { shape = shape; state = state }

-- a step that was made is an observation, followed by those of the later lines
abbrev pub StepObservations : (MachineState → List CheckObservation → Type 0) → Shape → EventLine → Bool → MachineState
    → List CheckObservation → Type 0
StepObservations rest shape line true new observations =
    (later : List CheckObservation) × rest new later × (observations ≡ takes line (machine_view_in shape new) ∷ later)
StepObservations rest shape line false new observations = observations ≡ []

-- there are no observations from the first line on that is no event line or whose step the machine does not have
abbrev pub LineObservations : (MachineState → List CheckObservation → Type 0) → Shape → MachineState → Option EventLine
    → List CheckObservation → Type 0
LineObservations rest shape old None observations = observations ≡ []
LineObservations rest shape old (Some line) observations =
    (admitted : Bool) × (new : MachineState) × LineAdmitted shape line admitted old new
    × StepObservations rest shape line admitted new observations

-- the observations of the lines from this one on
unfoldable pub LinesObservations : List (List ℕ) → Shape → MachineState → List InputLine → List CheckObservation
    → Type 0
LinesObservations names shape old [] observations = observations ≡ []
LinesObservations names shape old (line ∷ lines) observations =
    LineObservations (λ new later. LinesObservations names shape new lines later) shape old (event_read names line)
    observations

-- the observations after the first line, from its opening
abbrev pub ObservationsAfterOpening : Option (List (List ℕ) × Shape) → List InputLine → List CheckObservation → Type 0
ObservationsAfterOpening None lines observations = observations ≡ []
ObservationsAfterOpening (Some (names, shape)) lines observations =
    (later : List CheckObservation) × LinesObservations names shape (opening_state shape) lines later
    × (observations ≡ begins names (machine_view_in shape (opening_state shape)) ∷ later)

-- THE OBSERVATIONS OF A TRANSCRIPT
abbrev pub TranscriptObservations : List InputLine → List CheckObservation → Type 0
TranscriptObservations [] observations = observations ≡ []
TranscriptObservations (line ∷ lines) observations =
    (opened : Option (List (List ℕ) × Shape)) × FirstLineOpens line opened
    × ObservationsAfterOpening opened lines observations

-- an observer with this relation saw these observations in order, and nothing else changed it
abbrev pub ObserverSees : {V : Type 0} → (V → CheckObservation → V → Type 0) → V → List CheckObservation → V → Type 0
ObserverSees sees old [] new = new ≡ old
ObserverSees {V = V} sees old (observation ∷ observations) new =
    (mid : V) × sees old observation mid × ObserverSees sees mid observations new

-- an observer saw the observations of all lines of an input
abbrev pub ObserverSeesInput : {V : Type 0} → (V → CheckObservation → V → Type 0) → Option (List ℕ) → V → V → Type 0
ObserverSeesInput sees input old new =
    (lines : List InputLine) × (observations : List CheckObservation) × AreInputLines input lines
    × TranscriptObservations lines observations × ObserverSees sees old observations new

-- the same for the lines that remain after an opening
abbrev pub ObserverSeesRemaining : {V : Type 0} → (V → CheckObservation → V → Type 0) → List (List ℕ) → MachineView
    → Option (List ℕ) → V → V → Type 0
ObserverSeesRemaining sees names machine left old new =
    (lines : List InputLine) × (observations : List CheckObservation) × AreInputLines left lines
    × LinesObservations names machine.shape machine.state lines observations × ObserverSees sees old observations new

-- a line is observed if the machine made its step, with the machine afterwards
abbrev pub ObserverSeesFinding : {V : Type 0} → (V → CheckObservation → V → Type 0) → EventLine → MachineView
    → LineFinding → V → V → Type 0
ObserverSeesFinding sees line machine Step old new = sees old (takes line machine) new
ObserverSeesFinding sees line machine NoStep old new = new ≡ old
ObserverSeesFinding sees line machine NoEvent old new = new ≡ old

abbrev pub ObserverSeesLine : {V : Type 0} → (V → CheckObservation → V → Type 0) → Option EventLine → MachineView
    → LineFinding → V → V → Type 0
ObserverSeesLine sees None machine found old new = new ≡ old
ObserverSeesLine sees (Some line) machine found old new = ObserverSeesFinding sees line machine found old new
