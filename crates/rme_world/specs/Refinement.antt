-- THE REFINEMENT THEOREM. The answers of a list of events, in order, are those of a run of the abstract machine, from
-- the abstract state of the world before to the abstract state of the world after. In both worlds the owner table and
-- the cells are those of the abstract state.
use Rattle.std.specs.Prelude.{◌≡◌, List, [], ◌∷◌, Some, Result, Ok, Err}
use Rattle.rme_words.specs.declared.refusal.Refusal.{Refusal}
use Rattle.rme_program.specs.declared.event.Event.{Event}
use Rattle.rme_program.specs.declared.event.Answer.{Answer}
use Rattle.rme_program.specs.declared.event.Answer.TheVariants.{Refused}
use Rattle.rme_machine.specs.declared.label.Label.{Label}
use Rattle.rme_machine.specs.Machine.{MachineRun}
use Rattle.rme_machine.specs.Labels.{event_label}
use Rattle.rme_machine.specs.AbstractCells.{TablesMatchState}
use Rattle.rme_world.specs.WorldViews.{WorldView, world_memory, world_abstract_state}

-- Each event with its answer has one label: there are as many answers as events, and as many labels.
abbrev pub EventsHaveLabels : List Event → List Answer → List Label → Type 0
EventsHaveLabels [] [] [] = Unit {0}
EventsHaveLabels (event ∷ events) (answer ∷ answers) (label ∷ ls) =
    (event_label event answer ≡ Some label) × EventsHaveLabels events answers ls
EventsHaveLabels _ _ _ = ⊥

-- The owner table and the cells of a world are those of its abstract state.
abbrev pub WorldTablesMatch : WorldView → Type 0
WorldTablesMatch seen = TablesMatchState seen.shape (world_memory seen) (world_abstract_state seen)

pub record IsRefinement (old : WorldView) (events : List Event) (answers : List Answer) (new : WorldView) : Type 0 where
  pub told : List Label
  pub are_labels : EventsHaveLabels events answers told
  pub run : MachineRun old.shape (world_abstract_state old) told (world_abstract_state new)
  pub shape : new.shape ≡ old.shape
  pub before : WorldTablesMatch old
  pub after : WorldTablesMatch new

-- The refinement theorem for one event.
abbrev pub IsEventRefinement : WorldView → Event → Answer → WorldView → Type 0
IsEventRefinement old event answer new = IsRefinement old (event ∷ []) (answer ∷ []) new

-- The answer to a single call.
abbrev pub answer_of_call : {A : Type 0} → (A → Answer) → Result A Refusal → Answer
answer_of_call accepted (Ok value) = accepted value
answer_of_call accepted (Err refusal) = Refused refusal
