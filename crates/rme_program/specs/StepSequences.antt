-- Whole walks of a stay: the actions of a worker, in order, are its row.
use Rattle.std.specs.Prelude.{◌≡◌, ◌⊎◌, ℕ, ◌+◌, ◌<◌, List, [], ◌∷◌, length, take, drop}
use Rattle.rme_words.specs.declared.shape.Shape.{Shape}
use Rattle.rme_program.specs.declared.action.Action.{Action}
use Rattle.rme_program.specs.declared.private.Private.{Private}
use Rattle.rme_program.specs.declared.stage.Stage.{Stage}
use Rattle.rme_program.specs.Conditions.{IsPrivate}
use Rattle.rme_program.specs.Stays.{Stay, InRecover, StayOutcome, Goes, Stays, Leads, StageIsInStay, StayLoadFinds, stay_row, steps_made_in_row, row_step_outcome}
use Rattle.rme_program.specs.Steps.{private_action, private_after}

-- A blocked step makes no action of the row.
abbrev pub action_unless_blocked : StayOutcome → Action → List Action → List Action
action_unless_blocked Goes action rest = action ∷ rest
action_unless_blocked Stays action rest = rest
action_unless_blocked (Leads next) action rest = action ∷ rest

-- The actions of a worker in a stay whose loads and swaps find these values in turn, without blocked ones.
abbrev pub stay_actions : Shape → Stay → Private → List ℕ → List Action
stay_actions shape stay private [] = []
stay_actions shape stay private (value ∷ values) =
    action_unless_blocked (row_step_outcome shape private.worker private.begun stay
    (steps_made_in_row shape stay private.stage) value).0 (private_action shape private)
    (stay_actions shape stay (private_after shape private value) values)

-- While more values follow, the stay continues or the worker is blocked.
abbrev pub StayContinues : List ℕ → StayOutcome → Type 0
StayContinues [] onward = Unit {0}
StayContinues (value ∷ values) onward = (onward ≡ Goes) ⊎ (onward ≡ Stays)

-- Each value is one that the stay finds, and all steps but the last, which may end it, stay in it.
abbrev pub StayStepSequence : Shape → Stay → Private → List ℕ → Type 0
StayStepSequence shape stay private [] = Unit {0}
StayStepSequence shape stay private (value ∷ values) =
    StayLoadFinds stay (private_action shape private) value
    × IsPrivate shape (private_after shape private value)
    × StayContinues values (row_step_outcome shape private.worker private.begun stay
    (steps_made_in_row shape stay private.stage) value).0
    × StayStepSequence shape stay (private_after shape private value) values

-- A worker that walks in a stay executes its row's actions from its place on, however often it is blocked. (In Recover
-- `begun` becomes known on the way, and no action there depends on it.)
abbrev pub StayStepSequenceLaw : Type 0
StayStepSequenceLaw =
    (shape : Shape) (stay : Stay) (private : Private) (values : List ℕ) → IsPrivate shape private
    → StageIsInStay shape private.begun stay private.stage
    → StayStepSequence shape stay private values
    → stay_actions shape stay private values
    ≡ take (length (stay_actions shape stay private values))
    (drop (steps_made_in_row shape stay private.stage) (stay_row shape private.worker private.begun stay))

-- Every stay but Recover's ends with its row's last action. Recover's may end earlier, if there is nothing to recover
-- or a node is not the worker's.
abbrev pub StayEndsWithRow : Stay → Type 0
StayEndsWithRow (InRecover begun done lock) = ⊥
StayEndsWithRow _ = Unit {0}

abbrev pub StayEndLaw : Type 0
StayEndLaw =
    (shape : Shape) (worker known : ℕ) (stay : Stay) (place value : ℕ) (next : Stage) → StayEndsWithRow stay
    → place < length (stay_row shape worker known stay)
    → (row_step_outcome shape worker known stay place value).0 ≡ Leads next
    → place + 1 ≡ length (stay_row shape worker known stay)
