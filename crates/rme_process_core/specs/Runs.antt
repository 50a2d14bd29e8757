-- The contracts of the functions below the calls: the steps that actions predict, and the effect of values.
use Rattle.std.specs.Prelude.{◌≡◌, ◌≤◌, ◌+◌, ℕ, List, [], ◌++◌, length, take, slice_index}
use Rattle.rme_words.specs.declared.shape.Shape.{Shape}
use Rattle.rme_script.specs.Programs.{Program}
use Rattle.rme_program.specs.declared.note.Note.{Note}
use Rattle.rme_program.specs.declared.private.Private.{Private}
use Rattle.rme_program.specs.declared.stage.Stage.{Stage}
use Rattle.rme_program.specs.declared.stage.Stage.TheVariants.{Climbing, Logging}
use Rattle.rme_program.specs.declared.stage.Log.TheVariants.{LoadSlate, LoadCells}
use Rattle.rme_program.specs.Conditions.{IsPrivate, IsValidLoad}
use Rattle.rme_program.specs.Steps.{private_after, note_after}
use Rattle.rme_process_core.specs.declared.flat.FlatAction.{FlatAction}
use Rattle.rme_process_core.specs.Batches.{Predicts}
use Rattle.rme_process_core.specs.declared.flat.BatchOutcome.{BatchOutcome}
use Rattle.rme_process_core.specs.Folds.{ValuesAccepted, private_after_values, notes_of_values, prepend_note, flat_notes, outcome_notes}

-- ACTIONS

-- If further actions are a batch for a worker of state `there`, the actions of `told`, followed by them, are a batch
-- for one of state `here`.
abbrev pub PredictsUpTo : Shape → ℕ → Private → List FlatAction → Private → Type 0
PredictsUpTo shape until here told there =
    (rest : List FlatAction) → Predicts shape until there rest → Predicts shape until here (told ++ rest)

-- The same if only a property of the state `there` is known.
abbrev pub PredictsUpToSome : Shape → ℕ → Private → List FlatAction → (Private → Type 0) → Type 0
PredictsUpToSome shape until here told IsThere =
    (rest : List FlatAction) → ((there : Private) → IsThere there → Predicts shape until there rest)
    → Predicts shape until here (told ++ rest)

abbrev pub private_at_stage : ℕ → ℕ → Stage → Private
private_at_stage worker begun stage = record { worker = worker; begun = begun; stage = stage }

-- The worker wants a lock, and holds `held` nodes.
abbrev pub climbing_private : ℕ → ℕ → ℕ → ℕ → Private
climbing_private worker begun lock held = private_at_stage worker begun (Climbing record { lock = lock; held = held })

-- The worker is about to load a word of its slate; below, a named cell.
pub record IsLoadingSlate (worker operations at : ℕ) (private : Private) : Type 0 where
  pub lock : ℕ
  pub turn : ℕ
  pub words : List ℕ
  pub here : private.stage ≡ Logging (LoadSlate lock turn operations words at)
  pub own : private.worker ≡ worker

pub record IsLoadingCells (lock named cell : ℕ) (private : Private) : Type 0 where
  pub turn : ℕ
  pub script : Program
  pub row : List ℕ
  pub here : private.stage ≡ Logging (LoadCells lock turn script named row cell)

-- VALUES

-- The worker accepts each of these values, with these notes, and then has this private state.
pub record ValuesLeadTo (shape : Shape) (old : Private) (values : List ℕ) (notes : List Note) (new : Private) : Type 0
  where
    pub all : ValuesAccepted shape old values
    pub leads : new ≡ private_after_values shape old values
    pub says : notes ≡ notes_of_values shape old values

-- `count` steps lead from one private state to another without a note, whatever they find.
abbrev pub QuietStepsLeadTo : Shape → Private → ℕ → Private → Type 0
QuietStepsLeadTo shape old count new = (values : List ℕ) → length values ≡ count → ValuesLeadTo shape old values [] new

-- These notes are appended to those of the outcome.
pub record NotesWritten (before : BatchOutcome) (notes : List Note) (after : BatchOutcome) : Type 0 where
  pub told : outcome_notes after ≡ outcome_notes before ++ flat_notes notes
  pub count : after.count ≡ before.count + length notes

-- A worker's private state, and the outcome to which its notes are appended.
pub record NotedPrivate : Type 0 where
  pub private : Private
  pub outcome : BatchOutcome

abbrev pub noted : Private → BatchOutcome → NotedPrivate
noted private outcome = record { private = private; outcome = outcome }

-- The worker accepts the first `count` values, and its notes are appended.
pub record FastForward (shape : Shape) (old : NotedPrivate) (values : List ℕ) (count : ℕ) (new : NotedPrivate) : Type 0
  where
    pub within : count ≤ length values
    pub notes : List Note
    pub takes : ValuesLeadTo shape old.private (take count values) notes new.private
    pub few : length notes ≤ count
    pub writes : NotesWritten old.outcome notes new.outcome
    pub private : IsPrivate shape new.private

-- The same of at least one value.
pub record SomeValuesTaken (shape : Shape) (old : NotedPrivate) (values : List ℕ) (count : ℕ) (new : NotedPrivate) :
    Type 0 where
  pub some : 1 ≤ count
  pub jumps : FastForward shape old values count new

-- The worker accepts this value, and its step's note is appended.
pub record OneValueTaken (shape : Shape) (old : NotedPrivate) (value : ℕ) (new : NotedPrivate) : Type 0 where
  pub takes : IsValidLoad shape old.private.stage value
  pub leads : new.private ≡ private_after shape old.private value
  pub writes : NotesWritten old.outcome (prepend_note (note_after shape old.private value) []) new.outcome

-- The first of the values may not be accepted; the worker and the notes are unchanged.
pub record FirstValueRefused (shape : Shape) (old : NotedPrivate) (values : List ℕ) (new : NotedPrivate) : Type 0 where
  pub refused : IsValidLoad shape old.private.stage (slice_index values 0) → ⊥
  pub same : new.private ≡ old.private
  pub quiet : NotesWritten old.outcome [] new.outcome
