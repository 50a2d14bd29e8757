-- The stages of a section in order, and the number of its steps.
use Rattle.std.specs.Prelude.{◌≡◌, ◌⊎◌, ℕ, ◌+◌, ◌*◌, List, [], ◌∷◌, ◌++◌, length, Some, Bool, true, false}
use Rattle.rme_words.specs.declared.shape.Shape.{Shape}
use Rattle.rme_script.specs.Cells.{cells_of_ops}
use Rattle.rme_script.specs.Programs.{Program}
use Rattle.rme_script.specs.Scripts.{IsScript}
use Rattle.rme_script.specs.Slates.{script_from_words}
use Rattle.rme_program.specs.declared.note.Receipt.{Receipt}
use Rattle.rme_program.specs.declared.stage.Stage.{Stage}
use Rattle.rme_program.specs.declared.stage.Stage.TheVariants.{Climbing, Logging, Copying, Leaving}
use Rattle.rme_program.specs.declared.stage.Redo.{Redo}
use Rattle.rme_program.specs.declared.stage.Redo.TheVariants.{LoadMask, LoadShadow, StoreCell, LoadReply, StoreReply, StorePlace, StoreAt, StoreDone}
use Rattle.rme_program.specs.declared.stage.Departure.TheVariants.{LoadExitTurn}
use Rattle.rme_program.specs.declared.stage.Parity.{Parity}
use Rattle.rme_program.specs.declared.stage.Parity.TheVariants.{Even, Odd}
use Rattle.rme_program.specs.declared.stage.Visit.{Visit}
use Rattle.rme_program.specs.Masks.{mask_of}
use Rattle.rme_program.specs.Phases.{mask_cells_below}
use Rattle.rme_program.specs.StepsMade.{steps_made_in_redo, section_steps}
use Rattle.rme_service_steps.specs.declared.seat_record.Part.{Part}
use Rattle.rme_service_steps.specs.Parts.{draft_script}
use Rattle.rme_service_steps.specs.CallSteps.{SeatCall, SeatStepSequence, PartIsAtStage, CallProgress}

-- The parity at which the section of a stage was begun. No code keeps it.
abbrev pub parity_of_redo : Redo → Parity
parity_of_redo (LoadMask visit) = visit.parity
parity_of_redo (LoadShadow visit mask cell) = visit.parity
parity_of_redo (StoreCell visit mask cell value) = visit.parity
parity_of_redo (LoadReply visit mask) = visit.parity
parity_of_redo (StoreReply visit mask reply) = visit.parity
parity_of_redo (StorePlace visit mask reply) = visit.parity
parity_of_redo (StoreAt visit mask reply) = visit.parity
parity_of_redo (StoreDone visit mask reply) = visit.parity

abbrev pub parity_of_stage : Stage → Parity
parity_of_stage (Copying redo) = parity_of_redo redo
parity_of_stage _ = Odd

-- The visit of a part while it copies a section of this lock and turn.
abbrev pub visit_of_part : Part → ℕ → ℕ → Visit
visit_of_part part lock turn = record { lock = lock; turn = turn; parity = parity_of_stage part.private.stage }

-- The visit of a section that was begun at an even turn.
abbrev pub visit_from_even_turn : ℕ → ℕ → ℕ → ℕ → Visit
visit_from_even_turn lock turn operations named = record { lock = lock; turn = turn; parity = Even operations named }

-- The slate was read: its first `operations` operations are a script of the shape.
pub record SlateIsRead (shape : Shape) (operations : ℕ) (words : List ℕ) : Type 0 where
  pub script : Program
  pub read : script_from_words operations words ≡ Some script
  pub good : IsScript shape.cells script

-- The number of steps of a whole section: 11 + 3n + 4t from an even turn, for a script of n operations that names t
-- cells; 7 + 2m from an odd turn, for m cells of the mask.
abbrev pub IsSectionCount : Shape → Program → ℕ → Type 0
IsSectionCount shape script count =
    (count ≡ 11 + 3 * script.n + 4 * length (cells_of_ops script.ops shape.cells))
    ⊎ ((mask : ℕ) × (count ≡ 7 + 2 * mask_cells_below mask shape.cells))

-- The script was read and run, and its redo log was written: from the load of the length to the store of the odd turn.
pub record LogSteps (call : SeatCall) (lock turn : ℕ) : Type 0 where
  pub script : Program
  pub good : IsScript call.shape.cells script
  pub doing : CallProgress call (4 + 3 * script.n + mask_cells_below (mask_of script.ops) call.shape.cells * 2)
      call.start.part.private.begun (Copying (LoadMask (visit_from_even_turn lock turn script.n (mask_of script.ops))))

-- The section was finished with this receipt. Its entry is the part's last, with the draft's script; its place is the
-- number of finished sections that the worker knew, if it knew it; and the worker is before the first step of its exit.
pub record FinishSteps (call : SeatCall) (count begun lock : ℕ) (receipt : Receipt) : Type 0 where
  pub walks : SeatStepSequence call 0
  pub counted : call.end.part.steps ≡ call.start.part.steps + count
  pub ident : call.end.ident ≡ call.start.ident
  pub own : call.end.part.worker ≡ call.start.part.worker
  pub draft : call.end.part.draft ≡ call.start.part.draft
  pub entries : call.end.part.entries ≡ call.start.part.entries ++ record
      { receipt = receipt; script = draft_script call.start.part.draft } ∷ []
  pub by : receipt.worker ≡ call.start.part.worker
  pub number : receipt.number ≡ begun
  pub at_lock : receipt.lock ≡ lock
  pub place : (section : ℕ) → call.start.part.section ≡ Some section → receipt.place ≡ section
  pub at : PartIsAtStage call.shape call.end.part begun (Leaving (LoadExitTurn lock))

-- The same from the load of the mask on: the cells of this mask were copied, and the job was finished.
pub record RedoSteps (call : SeatCall) (begun lock turn : ℕ) (receipt : Receipt) : Type 0 where
  pub mask : ℕ
  pub finishes : FinishSteps call (6 + mask_cells_below mask call.shape.cells * 2) begun lock receipt
  pub steps : steps_made_in_redo call.shape (StoreDone (visit_of_part call.start.part lock turn) mask receipt.reply)
      + 1 ≡ section_steps call.shape (draft_script call.start.part.draft) mask
      (parity_of_stage call.start.part.private.stage)

-- The stages of a worker whose job is begun and not finished: its slate is the job's.
abbrev pub has_unfinished_job : Stage → Bool
has_unfinished_job (Climbing ascent) = true
has_unfinished_job (Logging log) = true
has_unfinished_job (Copying redo) = true
has_unfinished_job _ = false

-- A whole section of the draft's script, with the number of steps that it has.
pub record SectionSteps (call : SeatCall) (begun lock : ℕ) (receipt : Receipt) : Type 0 where
  pub count : ℕ
  pub finishes : FinishSteps call count begun lock receipt
  pub steps : IsSectionCount call.shape (draft_script call.start.part.draft) count
