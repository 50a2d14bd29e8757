-- The actions of a batch: those of a worker's next own steps, in order, while the batch continues.
use Rattle.std.specs.Prelude.{◌≡◌, ◌≢◌, ◌⊎◌, ◌<◌, ◌%◌, ◌^◌, ℕ, zero, suc, List, [], ◌∷◌, take}
use Rattle.rme_words.specs.declared.shape.Shape.{Shape}
use Rattle.rme_words.specs.Words.{word_number}
use Rattle.rme_program.specs.declared.action.Action.{Action}
use Rattle.rme_program.specs.declared.action.Action.TheVariants.{Load, Store, Swap}
use Rattle.rme_program.specs.declared.note.Note.{Note}
use Rattle.rme_program.specs.declared.private.Private.{Private}
use Rattle.rme_program.specs.declared.stage.Stage.TheVariants.{Resting}
use Rattle.rme_program.specs.Conditions.{IsValidLoad}
use Rattle.rme_program.specs.Steps.{private_action, private_after, note_after}
use Rattle.rme_process_core.specs.declared.flat.FlatAction.{FlatAction}
use Rattle.rme_process_core.specs.declared.flat.Batch.{Batch}
use Rattle.rme_process_core.specs.Flat.{flat_action, flat_note}

-- The first `count` actions of a batch.
abbrev pub batch_actions : Batch → List FlatAction
batch_actions batch = take batch.count batch.actions

-- A load is plain, or has an expected value.
abbrev pub IsLoadKind : ℕ → Type 0
IsLoadKind kind = (kind ≡ 1) ⊎ ((kind ≡ 4) ⊎ (kind ≡ 5))

-- The action of C is the operation of a step, on the same word. A swap is one from 0.
abbrev pub ActionMatches : Shape → FlatAction → Action → Type 0
ActionMatches shape flat (Load address) = IsLoadKind flat.kind × (flat.word ≡ word_number shape address)
ActionMatches shape flat (Store address value) = flat ≡ flat_action shape (Store address value)
ActionMatches shape flat (Swap address from to) = (from ≡ 0) × (flat ≡ flat_action shape (Swap address from to))

-- A batch continues after an action that found this: a swap that stored its value, a load that found what it expected.
pub record BatchContinues (action : FlatAction) (found : ℕ) : Type 0 where
  pub swapped : action.kind ≡ 3 → found ≡ 0
  pub expected : action.kind ≡ 4 → found ≡ action.value
  pub even : action.kind ≡ 5 → (found < 2 ^ 32) × (found % 2 ≡ 0)

-- The note has this kind, and is not quiet.
abbrev pub IsNoteKind : ℕ → ℕ → Type 0
IsNoteKind until zero = ⊥
IsNoteKind until (suc kind) = until ≡ suc kind

-- A batch ends at the latest with a step whose note has this kind.
abbrev pub NoteEndsBatch : ℕ → Note → Type 0
NoteEndsBatch until note = IsNoteKind until (flat_note note).kind

abbrev pub IfMoreActions : List FlatAction → Type 0 → Type 0
IfMoreActions [] it = Unit {0}
IfMoreActions (action ∷ rest) it = it

-- The actions are those of the next own steps of a worker with this private state. Where the batch continues after a
-- step, the step may accept the value that it found, so that no action follows a value that no world can have; and the
-- step's note is not of the kind that ends the batch.
abbrev pub Predicts : Shape → ℕ → Private → List FlatAction → Type 0
Predicts shape until private [] = Unit {0}
Predicts shape until private (action ∷ rest) =
    (private.stage ≢ Resting)
    × ActionMatches shape action (private_action shape private)
    × ((value : ℕ)
    → BatchContinues action value
    → IfMoreActions rest (IsValidLoad shape private.stage value
    × (NoteEndsBatch until (note_after shape private value) → ⊥))
    × Predicts shape until (private_after shape private value) rest)
