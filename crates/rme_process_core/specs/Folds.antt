-- The effect of the values of several own steps, in order, on a worker, and the notes of these steps.
use Rattle.std.specs.Prelude.{◌≡◌, ℕ, ◌<◌, List, [], ◌∷◌, length, take, map, slice_index}
use Rattle.rme_words.specs.declared.shape.Shape.{Shape}
use Rattle.rme_program.specs.declared.note.Note.{Note}
use Rattle.rme_program.specs.declared.note.Note.TheVariants.{Quiet, Asked, Blocked, Entered, Reentered, Finished, Left, Ready, Withdrew}
use Rattle.rme_program.specs.declared.private.Private.{Private}
use Rattle.rme_program.specs.Conditions.{IsValidLoad}
use Rattle.rme_program.specs.Steps.{private_after, note_after}
use Rattle.rme_process_core.specs.declared.flat.FlatNote.{FlatNote}
use Rattle.rme_process_core.specs.declared.flat.BatchOutcome.{BatchOutcome}
use Rattle.rme_process_core.specs.Flat.{flat_note}

-- The worker's private state after its steps found these values.
unfoldable pub private_after_values : Shape → Private → List ℕ → Private
private_after_values shape private [] = private
private_after_values shape private (value ∷ rest) = private_after_values shape (private_after shape private value) rest

-- A note before others, unless it is quiet.
abbrev pub prepend_note : Note → List Note → List Note
prepend_note Quiet rest = rest
prepend_note (Asked number) rest = Asked number ∷ rest
prepend_note Blocked rest = Blocked ∷ rest
prepend_note (Entered lock) rest = Entered lock ∷ rest
prepend_note (Reentered lock) rest = Reentered lock ∷ rest
prepend_note (Finished receipt) rest = Finished receipt ∷ rest
prepend_note (Left lock) rest = Left lock ∷ rest
prepend_note Ready rest = Ready ∷ rest
prepend_note (Withdrew number) rest = Withdrew number ∷ rest

-- The notes of these steps, in order.
unfoldable pub notes_of_values : Shape → Private → List ℕ → List Note
notes_of_values shape private [] = []
notes_of_values shape private (value ∷ rest) =
    prepend_note (note_after shape private value) (notes_of_values shape (private_after shape private value) rest)

-- The first `count` notes of an outcome, and these notes as plain numbers.
abbrev pub outcome_notes : BatchOutcome → List FlatNote
outcome_notes outcome = take outcome.count outcome.notes

abbrev pub flat_notes : List Note → List FlatNote
flat_notes notes = map flat_note notes

-- Each value is one that the step that finds it may accept.
abbrev pub ValuesAccepted : Shape → Private → List ℕ → Type 0
ValuesAccepted shape private [] = Unit {0}
ValuesAccepted shape private (value ∷ rest) =
    IsValidLoad shape private.stage value × ValuesAccepted shape (private_after shape private value) rest

-- The worker accepts each of these values, with these notes, and then has this private state.
pub record ValuesTaken (shape : Shape) (old : Private) (values : List ℕ) (notes : List FlatNote) (new : Private) : Type
    0 where
  pub all : ValuesAccepted shape old values
  pub leads : new ≡ private_after_values shape old values
  pub says : notes ≡ flat_notes (notes_of_values shape old values)

-- One of the values may not be accepted; the worker accepts those before it.
pub record ValueDamaged (shape : Shape) (old : Private) (values : List ℕ) (notes : List FlatNote) (new : Private) : Type
    0 where
  pub at : ℕ
  pub there : at < length values
  pub before : ValuesTaken shape old (take at values) notes new
  pub refused : IsValidLoad shape new.stage (slice_index values at) → ⊥
