-- The progress of each step: the order of the phases, the steps left and the steps made of a stay.
use Rattle.std.specs.Prelude.{◌≡◌, ◌≢◌, ◌⊎◌, ℕ, ◌+◌, ◌-◌, ◌*◌, ◌%◌, ◌<◌, ◌≤◌, true, length}
use Rattle.rme_words.specs.declared.shape.Shape.{Shape}
use Rattle.rme_script.specs.Cells.{mask_has_cell}
use Rattle.rme_program.specs.declared.kinds.Phase.{Phase}
use Rattle.rme_program.specs.declared.kinds.Phase.TheVariants.{Recover, Post, Enter, Section, Exit, Ready}
use Rattle.rme_program.specs.declared.note.Note.{Note}
use Rattle.rme_program.specs.declared.note.Note.TheVariants.{Blocked}
use Rattle.rme_program.specs.declared.private.Private.{Private}
use Rattle.rme_program.specs.declared.stage.Stage.{Stage}
use Rattle.rme_program.specs.declared.stage.Stage.TheVariants.{Resting, Recovering, Posting, Climbing, Logging, Copying, Leaving}
use Rattle.rme_program.specs.declared.stage.Recovery.{Recovery}
use Rattle.rme_program.specs.declared.stage.Recovery.TheVariants.{LoadBegun}
use Rattle.rme_program.specs.declared.stage.Log.{Log}
use Rattle.rme_program.specs.declared.stage.Log.TheVariants.{LoadTurn, LoadLen, LoadSlate, LoadCells, StoreShadows, StoreShadowReply, StoreMask, StoreTurn}
use Rattle.rme_program.specs.declared.stage.Redo.{Redo}
use Rattle.rme_program.specs.declared.stage.Redo.TheVariants.{LoadMask, LoadShadow, StoreCell, LoadReply, StoreReply, StorePlace, StoreAt, StoreDone}
use Rattle.rme_program.specs.declared.stage.Departure.{Departure}
use Rattle.rme_program.specs.declared.stage.Departure.TheVariants.{LoadExitTurn, StoreExitTurn, Clear, WithdrawPlace, WithdrawAt, WithdrawReply, WithdrawDone}
use Rattle.rme_program.specs.declared.stage.Parity.{Parity}
use Rattle.rme_program.specs.declared.stage.Parity.TheVariants.{Even, Odd}
use Rattle.rme_program.specs.Masks.{mask_of}
use Rattle.rme_program.specs.Phases.{phase_of, steps_left, mask_cells_below, even_steps}
use Rattle.rme_program.specs.StepsMade.{steps_made_in_recovery, steps_made_in_log, steps_made_in_redo, steps_before_redo}
use Rattle.rme_program.specs.Stays.{Stay, InRecover, InPost, InEnter, InSection, InExit, InPartialExit, InWithdrawal, StageIsInStay, stay_row, steps_made_in_row}

-- The phases in order.
abbrev pub phase_rank : Phase → ℕ
phase_rank Recover = 0
phase_rank Post = 1
phase_rank Enter = 2
phase_rank Section = 3
phase_rank Exit = 4
phase_rank Ready = 5

-- ON TRACK: what the steps of this program preserve, but a world's words do not imply. The cell of a stage is one of
-- its mask's, and while the shadow words are stored the section is known to have begun at an even turn.
abbrev pub IsEvenWithMask : Parity → ℕ → Type 0
IsEvenWithMask (Even operations cells) named = cells ≡ named
IsEvenWithMask Odd named = ⊥

abbrev pub IsEvenParity : Parity → Type 0
IsEvenParity (Even operations cells) = Unit {0}
IsEvenParity Odd = ⊥

abbrev pub IsLogOnTrack : Log → Type 0
IsLogOnTrack (LoadCells lock turn script named row cell) =
    (named ≡ mask_of script.ops) × (mask_has_cell named cell ≡ true)
IsLogOnTrack (StoreShadows visit named row reply cell) =
    IsEvenWithMask visit.parity named × (mask_has_cell named cell ≡ true)
IsLogOnTrack (StoreShadowReply visit named reply) = IsEvenWithMask visit.parity named
IsLogOnTrack (StoreMask visit named) = IsEvenWithMask visit.parity named
IsLogOnTrack (StoreTurn visit) = IsEvenParity visit.parity
IsLogOnTrack _ = Unit {0}

abbrev pub IsRedoOnTrack : Redo → Type 0
IsRedoOnTrack (LoadShadow visit mask cell) = mask_has_cell mask cell ≡ true
IsRedoOnTrack (StoreCell visit mask cell value) = mask_has_cell mask cell ≡ true
IsRedoOnTrack _ = Unit {0}

abbrev pub IsOnTrack : Stage → Type 0
IsOnTrack (Logging log) = IsLogOnTrack log
IsOnTrack (Copying redo) = IsRedoOnTrack redo
IsOnTrack _ = Unit {0}

-- THE STEPS LEFT

-- A step decreases the steps left of the phase, or leads to a later phase.
abbrev pub StageProgress : Shape → Stage → Stage → Type 0
StageProgress shape old new =
    ((phase_of new ≡ phase_of old) × (steps_left shape new < steps_left shape old))
    ⊎ (phase_rank (phase_of old) < phase_rank (phase_of new))

-- The number from which the steps made are subtracted to give the steps left: 11 + 3n + 2t + 2C before the load of the
-- mask of an even section, with n = 8 until n is loaded and t = C until the operations are loaded.
abbrev pub parity_step_bound : Shape → Parity → ℕ
parity_step_bound shape (Even operations cells) = even_steps shape operations (mask_cells_below cells shape.cells)
parity_step_bound shape Odd = 7 + 2 * shape.cells

abbrev pub log_step_bound : Shape → Log → ℕ
log_step_bound shape (LoadTurn lock) = even_steps shape 8 shape.cells
log_step_bound shape (LoadLen lock turn) = even_steps shape 8 shape.cells
log_step_bound shape (LoadSlate lock turn operations words loaded) = even_steps shape operations shape.cells
log_step_bound shape (LoadCells lock turn script named row cell) =
    even_steps shape script.n (mask_cells_below named shape.cells)
log_step_bound shape (StoreShadows visit named row reply cell) = parity_step_bound shape visit.parity
log_step_bound shape (StoreShadowReply visit named reply) = parity_step_bound shape visit.parity
log_step_bound shape (StoreMask visit named) = parity_step_bound shape visit.parity
log_step_bound shape (StoreTurn visit) = parity_step_bound shape visit.parity

-- From the load of the mask on, 7 + 2m steps from the load of the turn; 11 + 3n + 2t + 2m in all if the turn was even.
abbrev pub mask_step_bound : Shape → Parity → ℕ → ℕ
mask_step_bound shape parity mask = steps_before_redo shape parity + (6 + 2 * mask_cells_below mask shape.cells)

abbrev pub redo_step_bound : Shape → Redo → ℕ
redo_step_bound shape (LoadMask visit) = parity_step_bound shape visit.parity
redo_step_bound shape (LoadShadow visit mask cell) = mask_step_bound shape visit.parity mask
redo_step_bound shape (StoreCell visit mask cell value) = mask_step_bound shape visit.parity mask
redo_step_bound shape (LoadReply visit mask) = mask_step_bound shape visit.parity mask
redo_step_bound shape (StoreReply visit mask reply) = mask_step_bound shape visit.parity mask
redo_step_bound shape (StorePlace visit mask reply) = mask_step_bound shape visit.parity mask
redo_step_bound shape (StoreAt visit mask reply) = mask_step_bound shape visit.parity mask
redo_step_bound shape (StoreDone visit mask reply) = mask_step_bound shape visit.parity mask

-- In Exit h + 2 until the turn is known, and then the number that the turn decides.
abbrev pub exit_step_bound : Shape → ℕ → Departure → ℕ
exit_step_bound shape turn (Clear lock level) = 1 + turn % 2 + shape.height
exit_step_bound shape turn _ = shape.height + 2

abbrev pub stay_step_bound : Shape → Stay → Stage → ℕ
stay_step_bound shape (InRecover begun done lock) stage = shape.height + 3
stay_step_bound shape (InPost job) stage = 3 + 3 * job.script.n
stay_step_bound shape (InEnter lock from) stage = shape.height - from
stay_step_bound shape (InSection lock reading) (Logging log) = log_step_bound shape log
stay_step_bound shape (InSection lock reading) (Copying redo) = redo_step_bound shape redo
stay_step_bound shape (InExit lock turn) (Leaving departure) = exit_step_bound shape turn departure
stay_step_bound shape (InPartialExit lock levels) stage = levels
stay_step_bound shape (InWithdrawal lock levels) stage = 4 + levels
stay_step_bound shape _ _ = 0

-- The steps left and the steps made add up to the column, and the column covers the whole row.
pub record StepsLeftInStay (shape : Shape) (private : Private) (stay : Stay) (left : ℕ) : Type 0 where
  pub column : steps_made_in_row shape stay private.stage + left ≡ stay_step_bound shape stay private.stage
  pub enough : length (stay_row shape private.worker private.begun stay) ≤ steps_made_in_row shape stay private.stage +
      left

abbrev pub StepsLeftInAnyStay : Shape → Private → ℕ → Type 0
StepsLeftInAnyStay shape private left =
    (stay : Stay) → StageIsInStay shape private.begun stay private.stage → StepsLeftInStay shape private stay left

-- THE STEPS MADE OF A STAY, without the values that were found. The stay began at the first of the two stages.

abbrev pub ExitStepsTaken : Shape → Departure → Departure → ℕ → Type 0
ExitStepsTaken shape (LoadExitTurn lock) (LoadExitTurn here) count = count ≡ 0
ExitStepsTaken shape (LoadExitTurn lock) (StoreExitTurn here turn) count = count ≡ 1
ExitStepsTaken shape (LoadExitTurn lock) (Clear here level) count =
    (count + level ≡ shape.height + 1) ⊎ (count + level ≡ shape.height + 2)
ExitStepsTaken shape (Clear lock levels) (Clear here level) count = count + level ≡ levels
ExitStepsTaken shape (WithdrawPlace lock levels) (WithdrawPlace here held) count = (held ≡ levels) × (count ≡ 0)
ExitStepsTaken shape (WithdrawPlace lock levels) (WithdrawAt here held) count = (held ≡ levels) × (count ≡ 1)
ExitStepsTaken shape (WithdrawPlace lock levels) (WithdrawReply here held) count = (held ≡ levels) × (count ≡ 2)
ExitStepsTaken shape (WithdrawPlace lock levels) (WithdrawDone here held) count = (held ≡ levels) × (count ≡ 3)
ExitStepsTaken shape (WithdrawPlace lock levels) (Clear here level) count = count + level ≡ 4 + levels
ExitStepsTaken shape _ _ count = ⊥

abbrev pub IsRecoveryStart : Recovery → Type 0
IsRecoveryStart LoadBegun = Unit {0}
IsRecoveryStart _ = ⊥

abbrev pub IsSectionStart : Log → Type 0
IsSectionStart (LoadTurn lock) = Unit {0}
IsSectionStart _ = ⊥

abbrev pub StepsTaken : Shape → Stage → Stage → ℕ → Type 0
StepsTaken shape (Recovering first) (Recovering recovery) count =
    IsRecoveryStart first × (count ≡ steps_made_in_recovery recovery)
StepsTaken shape (Posting first) (Posting slate) count =
    (first.job ≡ slate.job) × (first.stored ≡ 0) × (count ≡ slate.stored)
StepsTaken shape (Climbing first) (Climbing ascent) count = count + first.held ≡ ascent.held
StepsTaken shape (Logging first) (Logging log) count = IsSectionStart first × (count ≡ steps_made_in_log shape log)
StepsTaken shape (Logging first) (Copying redo) count = IsSectionStart first × (count ≡ steps_made_in_redo shape redo)
StepsTaken shape (Leaving first) (Leaving departure) count = ExitStepsTaken shape first departure count
StepsTaken shape Resting Resting count = count ≡ 0
StepsTaken shape _ _ count = ⊥

-- An upper bound for the steps of a whole stay: h + 3 of Recover, 3 + 3n of Post, h of Enter, 11 + 3n + 2t + 2m or 7 +
-- 2m of a section, h + 2 of Exit, j of its partial and 4 + j of its withdrawing form.
abbrev pub max_exit_steps : Shape → Departure → ℕ
max_exit_steps shape (Clear lock levels) = levels
max_exit_steps shape (WithdrawPlace lock levels) = 4 + levels
max_exit_steps shape _ = shape.height + 2

abbrev pub max_stay_steps : Shape → Stage → Stage → ℕ
max_stay_steps shape first (Recovering recovery) = shape.height + 3
max_stay_steps shape first (Posting slate) = 3 + 3 * slate.job.script.n
max_stay_steps shape (Climbing first) (Climbing ascent) = shape.height - first.held
max_stay_steps shape first (Logging log) = log_step_bound shape log
max_stay_steps shape first (Copying redo) = redo_step_bound shape redo
max_stay_steps shape (Leaving first) (Leaving departure) = max_exit_steps shape first
max_stay_steps shape _ _ = 0

-- A step that is not blocked adds one to the count of its stay, or begins another stay with count 0.
pub record StepIsCounted (shape : Shape) (old new : Stage) (note : Note) : Type 0 where
  pub more : (first : Stage) (count : ℕ) → StepsTaken shape first old count → phase_of new ≡ phase_of old
      → note ≢ Blocked → StepsTaken shape first new (count + 1)
  pub begins : phase_of new ≢ phase_of old → StepsTaken shape new new 0

-- The steps left and the steps made are together at most the steps of the stay.
abbrev pub IsWithinStayLimit : Shape → Stage → ℕ → Type 0
IsWithinStayLimit shape stage left =
    (first : Stage) (count : ℕ) → StepsTaken shape first stage count → count + left ≤ max_stay_steps shape first stage
