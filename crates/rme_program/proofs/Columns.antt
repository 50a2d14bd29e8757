-- The steps left of a stay and the steps made of it add up to the table's column.
use Rattle.std.proofs.Common.{◌≡◌, ℕ, ◌+◌, ◌*◌, ◌%◌, ◌≤◌, ◌==◌, true, nat_lt, length, refl, sym, ap, subst, inl, inr, arith}
use Rattle.std.proofs.lemmas.Bool.{cases_eq, eq-eqb, ne_eqb}
use Rattle.rme_words.specs.declared.shape.Shape.{Shape}
use Rattle.rme_script.specs.declared.job.Job.{Job}
use Rattle.rme_script.proofs.Rising.{cells_named_most}
use Rattle.rme_program.specs.declared.private.Private.{Private}
use Rattle.rme_program.specs.declared.stage.Stage.{Stage}
use Rattle.rme_program.specs.declared.stage.Stage.TheVariants.{Resting, Recovering, Posting, Climbing, Logging, Copying, Leaving}
use Rattle.rme_program.specs.declared.stage.Recovery.{Recovery}
use Rattle.rme_program.specs.declared.stage.Recovery.TheVariants.{LoadBegun, LoadDone, LoadLock, LoadPath}
use Rattle.rme_program.specs.declared.stage.Log.{Log}
use Rattle.rme_program.specs.declared.stage.Log.TheVariants.{LoadTurn, LoadLen, LoadSlate, LoadCells, StoreShadows, StoreShadowReply, StoreMask, StoreTurn}
use Rattle.rme_program.specs.declared.stage.Redo.{Redo}
use Rattle.rme_program.specs.declared.stage.Redo.TheVariants.{LoadMask, LoadShadow, StoreCell, LoadReply, StoreReply, StorePlace, StoreAt, StoreDone}
use Rattle.rme_program.specs.declared.stage.Departure.{Departure}
use Rattle.rme_program.specs.declared.stage.Departure.TheVariants.{LoadExitTurn, StoreExitTurn, Clear, WithdrawPlace, WithdrawAt, WithdrawReply, WithdrawDone}
use Rattle.rme_program.specs.declared.stage.Parity.{Parity}
use Rattle.rme_program.specs.declared.stage.Parity.TheVariants.{Even, Odd}
use Rattle.rme_program.specs.Conditions.{IsRecoveryStage, IsLogStage, IsRedoStage, IsDepartureStage, IsStage, IsPrivate}
use Rattle.rme_program.specs.Masks.{mask_of}
use Rattle.rme_program.specs.Phases.{steps_left, recovery_steps_left, log_steps_left, redo_steps_left, departure_steps_left, mask_cells_below, even_steps}
use Rattle.rme_program.specs.Table.{Reading}
use Rattle.rme_program.specs.StepsMade.{steps_made_in_recovery, steps_made_in_log, steps_made_in_redo, steps_before_redo}
use Rattle.rme_program.specs.Stays.{Stay, InRecover, InPost, InEnter, InSection, InExit, InPartialExit, InWithdrawal, StageIsInStay, LogIsInStay, RedoIsInStay, ExitIsInStay, PartialExitIsInStay, WithdrawalIsInStay, IsReading, reading_parity, stay_row, steps_made_in_row}
use Rattle.rme_program.specs.Progress.{IsEvenWithMask, IsEvenParity, IsLogOnTrack, IsOnTrack, stay_step_bound, log_step_bound, redo_step_bound, parity_step_bound, exit_step_bound, StepsLeftInAnyStay, StepsTaken, ExitStepsTaken, max_stay_steps, max_exit_steps, IsWithinStayLimit}
use Rattle.rme_program.proofs.Counts.{cells_below_less}
use Rattle.rme_program.proofs.Rows.{recover_length, post_length, enter_length, exit_length, clear_length, withdraw_length}
use Rattle.rme_program.proofs.SectionRows.{section_length}

-- ---- sections, by the stage

even_with : (parity : Parity) (named : ℕ) → IsEvenWithMask parity named → (operations : ℕ) × (parity ≡ Even operations named)
even_with (Even operations cells) named e = (operations, ap (λ (c : ℕ). Even operations c) e)
even_with Odd named e = absurd e

even_parity : (parity : Parity) → IsEvenParity parity → (operations cells : ℕ) × (parity ≡ Even operations cells)
even_parity (Even operations cells) e = (operations, cells, refl)
even_parity Odd e = absurd e

pub log_column : (shape : Shape) (log : Log) → IsLogStage shape log → IsLogOnTrack log → steps_made_in_log shape log + log_steps_left shape log ≡ log_step_bound shape log
log_column shape (LoadTurn lock) is on = omega arith
log_column shape (LoadLen lock turn) is on = omega arith
log_column shape (LoadSlate lock turn operations words loaded) is on = omega (arith, is.2)
log_column shape (LoadCells lock turn script named row cell) is on = omega (arith, cells_below_less named cell shape.cells (omega (arith, is.1)))
log_column shape (StoreShadows visit named row reply cell) is on =
    let even : (operations : ℕ) × (visit.parity ≡ Even operations named) = even_with visit.parity named on.0 in
    rw even.1 (omega (arith, cells_below_less named cell shape.cells (omega (arith, is.1))))
log_column shape (StoreShadowReply visit named reply) is on =
    let even : (operations : ℕ) × (visit.parity ≡ Even operations named) = even_with visit.parity named on in rw even.1 (omega arith)
log_column shape (StoreMask visit named) is on =
    let even : (operations : ℕ) × (visit.parity ≡ Even operations named) = even_with visit.parity named on in rw even.1 (omega arith)
log_column shape (StoreTurn visit) is on =
    let even : (operations cells : ℕ) × (visit.parity ≡ Even operations cells) = even_parity visit.parity on in rw even.2 (omega arith)

mask_column : (shape : Shape) (parity : Parity) → steps_before_redo shape parity + (6 + 2 * shape.cells) ≡ parity_step_bound shape parity
mask_column shape (Even operations cells) = omega arith
mask_column shape Odd = omega arith

pub redo_column : (shape : Shape) (redo : Redo) → IsRedoStage shape redo → steps_made_in_redo shape redo + redo_steps_left shape redo ≡ redo_step_bound shape redo
redo_column shape (LoadMask visit) is = mask_column shape visit.parity
redo_column shape (LoadShadow visit mask cell) is = omega (arith, cells_below_less mask cell shape.cells (omega (arith, is.1)))
redo_column shape (StoreCell visit mask cell value) is =
    omega (arith, cells_below_less mask cell shape.cells (omega (arith, is.1)))
redo_column shape (LoadReply visit mask) is = omega arith
redo_column shape (StoreReply visit mask reply) is = omega arith
redo_column shape (StorePlace visit mask reply) is = omega arith
redo_column shape (StoreAt visit mask reply) is = omega arith
redo_column shape (StoreDone visit mask reply) is = omega arith

-- ---- a stage in its stay is on track

log_on_track : (shape : Shape) (lock : ℕ) (reading : Reading) (log : Log) → LogIsInStay shape lock reading log → IsLogOnTrack log
log_on_track shape lock reading (LoadTurn here) fits = tt
log_on_track shape lock reading (LoadLen here turn) fits = tt
log_on_track shape lock reading (LoadSlate here turn operations words loaded) fits = tt
log_on_track shape lock reading (LoadCells here turn script named row cell) fits = rw fits.3 (fits.4, fits.5)
log_on_track shape lock reading (StoreShadows visit named row reply cell) fits =
    let b : (reading.turn % 2 == 0) ≡ true = eq-eqb (reading.turn % 2) 0 fits.0 in rw (fits.1, b) (sym fits.2, fits.3)
log_on_track shape lock reading (StoreShadowReply visit named reply) fits =
    let b : (reading.turn % 2 == 0) ≡ true = eq-eqb (reading.turn % 2) 0 fits.0 in rw (fits.1, b) (sym fits.2)
log_on_track shape lock reading (StoreMask visit named) fits =
    let b : (reading.turn % 2 == 0) ≡ true = eq-eqb (reading.turn % 2) 0 fits.0 in rw (fits.1, b) (sym fits.2)
log_on_track shape lock reading (StoreTurn visit) fits =
    let b : (reading.turn % 2 == 0) ≡ true = eq-eqb (reading.turn % 2) 0 fits.0 in rw (fits.1, b) tt

-- ---- the row is no longer than the column

most_cells : (mask cells : ℕ) → mask_cells_below mask cells ≤ cells
most_cells mask cells = cells_named_most mask cells

parity_within : (shape : Shape) (reading : Reading) → IsReading shape reading
    → steps_before_redo shape (reading_parity reading) + (6 + 2 * mask_cells_below reading.mask shape.cells) ≤ even_steps shape 8 shape.cells
parity_within shape reading is = elim (cases_eq (reading.turn % 2) 0) [
  | inl q ↦ rw (eq-eqb (reading.turn % 2) 0 q) (omega (arith, is.script.few, most_cells reading.mask shape.cells, most_cells (mask_of reading.script.ops) shape.cells))
  | inr n ↦ rw (ne_eqb (reading.turn % 2) 0 n) (omega (arith, most_cells reading.mask shape.cells))
]

mask_within : (shape : Shape) (parity : Parity) (mask : ℕ) → steps_before_redo shape parity + (6 + 2 * mask_cells_below mask shape.cells) ≤ parity_step_bound shape parity
mask_within shape parity mask = omega (arith, mask_column shape parity, most_cells mask shape.cells)

log_within : (shape : Shape) (lock : ℕ) (reading : Reading) (log : Log) → IsReading shape reading → LogIsInStay shape lock reading log
    → steps_before_redo shape (reading_parity reading) + (6 + 2 * mask_cells_below reading.mask shape.cells) ≤ log_step_bound shape log
log_within shape lock reading (LoadTurn here) is fits = parity_within shape reading is
log_within shape lock reading (LoadLen here turn) is fits = parity_within shape reading is
log_within shape lock reading (LoadSlate here turn operations words loaded) is fits =
    rw (fits.3, eq-eqb (reading.turn % 2) 0 fits.0) (omega (arith, most_cells reading.mask shape.cells, most_cells (mask_of reading.script.ops) shape.cells))
log_within shape lock reading (LoadCells here turn script named row cell) is fits =
    rw (fits.3, fits.4, eq-eqb (reading.turn % 2) 0 fits.0) (omega (arith, most_cells reading.mask shape.cells))
log_within shape lock reading (StoreShadows visit named row reply cell) is fits = rw fits.1 (mask_within shape (reading_parity reading) reading.mask)
log_within shape lock reading (StoreShadowReply visit named reply) is fits = rw fits.1 (mask_within shape (reading_parity reading) reading.mask)
log_within shape lock reading (StoreMask visit named) is fits = rw fits.1 (mask_within shape (reading_parity reading) reading.mask)
log_within shape lock reading (StoreTurn visit) is fits = rw fits.1 (mask_within shape (reading_parity reading) reading.mask)

redo_within : (shape : Shape) (lock : ℕ) (reading : Reading) (redo : Redo) → RedoIsInStay lock reading redo
    → steps_before_redo shape (reading_parity reading) + (6 + 2 * mask_cells_below reading.mask shape.cells) ≤ redo_step_bound shape redo
redo_within shape lock reading (LoadMask visit) fits = rw fits (mask_within shape (reading_parity reading) reading.mask)
redo_within shape lock reading (LoadShadow visit mask cell) fits = rw (fits.0, fits.1) (omega arith)
redo_within shape lock reading (StoreCell visit mask cell value) fits = rw (fits.0, fits.1) (omega arith)
redo_within shape lock reading (LoadReply visit mask) fits = rw (fits.0, fits.1) (omega arith)
redo_within shape lock reading (StoreReply visit mask reply) fits = rw (fits.0, fits.1) (omega arith)
redo_within shape lock reading (StorePlace visit mask reply) fits = rw (fits.0, fits.1) (omega arith)
redo_within shape lock reading (StoreAt visit mask reply) fits = rw (fits.0, fits.1) (omega arith)
redo_within shape lock reading (StoreDone visit mask reply) fits = rw (fits.0, fits.1) (omega arith)

-- ---- all stages

record Adds (place left column long : ℕ) : Type 0 where
  column_is : place + left ≡ column
  within : long ≤ column

adds_in_exit : (shape : Shape) (worker lock turn : ℕ) (departure : Departure) → IsDepartureStage shape departure → ExitIsInStay shape lock turn departure
    → Adds (steps_made_in_row shape (InExit lock turn) (Leaving departure)) (departure_steps_left shape departure) (exit_step_bound shape turn departure) (length (stay_row shape worker 0 (InExit lock turn)))
adds_in_exit shape worker lock turn (LoadExitTurn here) is fits = record { column_is = omega arith; within = omega (arith, exit_length shape worker lock turn) }
adds_in_exit shape worker lock turn (StoreExitTurn here odd) is fits = record { column_is = omega arith; within = omega (arith, exit_length shape worker lock turn) }
adds_in_exit shape worker lock turn (Clear here level) is fits = record { column_is = omega (arith, is.1); within = omega (arith, exit_length shape worker lock turn) }
adds_in_exit shape worker lock turn (WithdrawPlace here held) is fits = absurd fits
adds_in_exit shape worker lock turn (WithdrawAt here held) is fits = absurd fits
adds_in_exit shape worker lock turn (WithdrawReply here held) is fits = absurd fits
adds_in_exit shape worker lock turn (WithdrawDone here held) is fits = absurd fits

adds_in_partial : (shape : Shape) (worker lock levels : ℕ) (departure : Departure) → PartialExitIsInStay shape lock levels departure
    → Adds (steps_made_in_row shape (InPartialExit lock levels) (Leaving departure)) (departure_steps_left shape departure) levels (length (stay_row shape worker 0 (InPartialExit lock levels)))
adds_in_partial shape worker lock levels (Clear here level) fits = record { column_is = omega (arith, fits.1); within = omega (arith, clear_length shape worker lock levels) }
adds_in_partial shape worker lock levels (LoadExitTurn here) fits = absurd fits
adds_in_partial shape worker lock levels (StoreExitTurn here odd) fits = absurd fits
adds_in_partial shape worker lock levels (WithdrawPlace here held) fits = absurd fits
adds_in_partial shape worker lock levels (WithdrawAt here held) fits = absurd fits
adds_in_partial shape worker lock levels (WithdrawReply here held) fits = absurd fits
adds_in_partial shape worker lock levels (WithdrawDone here held) fits = absurd fits

adds_in_withdrawal : (shape : Shape) (worker known lock levels : ℕ) (departure : Departure) → WithdrawalIsInStay shape lock levels departure
    → Adds (steps_made_in_row shape (InWithdrawal lock levels) (Leaving departure)) (departure_steps_left shape departure) (4 + levels) (length (stay_row shape worker known (InWithdrawal lock levels)))
adds_in_withdrawal shape worker known lock levels (WithdrawPlace here held) fits = record { column_is = omega (arith, fits.1); within = omega (arith, withdraw_length shape worker known lock levels) }
adds_in_withdrawal shape worker known lock levels (WithdrawAt here held) fits = record { column_is = omega (arith, fits.1); within = omega (arith, withdraw_length shape worker known lock levels) }
adds_in_withdrawal shape worker known lock levels (WithdrawReply here held) fits = record { column_is = omega (arith, fits.1); within = omega (arith, withdraw_length shape worker known lock levels) }
adds_in_withdrawal shape worker known lock levels (WithdrawDone here held) fits = record { column_is = omega (arith, fits.1); within = omega (arith, withdraw_length shape worker known lock levels) }
adds_in_withdrawal shape worker known lock levels (Clear here level) fits = record { column_is = omega (arith, fits.1); within = omega (arith, withdraw_length shape worker known lock levels) }
adds_in_withdrawal shape worker known lock levels (LoadExitTurn here) fits = absurd fits
adds_in_withdrawal shape worker known lock levels (StoreExitTurn here odd) fits = absurd fits

recovery_column : (shape : Shape) (recovery : Recovery) → IsRecoveryStage shape recovery → steps_made_in_recovery recovery + recovery_steps_left shape recovery ≡ shape.height + 3
recovery_column shape LoadBegun is = omega arith
recovery_column shape LoadDone is = omega arith
recovery_column shape (LoadLock pending) is = omega arith
recovery_column shape (LoadPath pending lock held) is = omega (arith, is.1)

adds : (shape : Shape) (worker known : ℕ) (stay : Stay) (stage : Stage) → IsStage shape known stage → StageIsInStay shape known stay stage
    → Adds (steps_made_in_row shape stay stage) (steps_left shape stage) (stay_step_bound shape stay stage) (length (stay_row shape worker known stay))
adds shape worker known (InRecover begun done lock) (Recovering recovery) is fits =
    record { column_is = recovery_column shape recovery is; within = omega (arith, recover_length shape worker (nat_lt done begun) lock) }
adds shape worker known (InPost job) (Posting slate) is fits =
    let same : slate.job.script.n ≡ job.script.n = ap (λ (j : Job). j.script.n) fits in
    record { column_is = omega (arith, same, is.2); within = omega (arith, post_length worker known job) }
adds shape worker known (InEnter lock from) (Climbing ascent) is fits =
    record { column_is = omega (arith, is.1, fits.1); within = omega (arith, enter_length shape worker lock from) }
adds shape worker known (InSection lock reading) (Logging log) is fits =
    record { column_is = log_column shape log is (log_on_track shape lock reading log fits.1); within = omega (arith, section_length shape worker known lock reading, log_within shape lock reading log fits.0 fits.1) }
adds shape worker known (InSection lock reading) (Copying redo) is fits =
    record { column_is = redo_column shape redo is; within = omega (arith, section_length shape worker known lock reading, redo_within shape lock reading redo fits.1) }
adds shape worker known (InExit lock turn) (Leaving departure) is fits = adds_in_exit shape worker lock turn departure is fits
adds shape worker known (InPartialExit lock levels) (Leaving departure) is fits = adds_in_partial shape worker lock levels departure fits
adds shape worker known (InWithdrawal lock levels) (Leaving departure) is fits = adds_in_withdrawal shape worker known lock levels departure fits
adds shape worker known _ _ is fits = absurd fits

pub column_is : (shape : Shape) (private : Private) → IsPrivate shape private → StepsLeftInAnyStay shape private (steps_left shape private.stage)
column_is shape private is stay fits =
    let sum : Adds (steps_made_in_row shape stay private.stage) (steps_left shape private.stage) (stay_step_bound shape stay private.stage) (length (stay_row shape private.worker private.begun stay))
    = adds shape private.worker private.begun stay private.stage is.stage fits in
    record { column = sum.column_is; enough = omega (arith, sum.column_is, sum.within) }

pub fits_on_track : (shape : Shape) (known : ℕ) (stay : Stay) (stage : Stage) → StageIsInStay shape known stay stage → IsOnTrack stage
fits_on_track shape known (InSection lock reading) (Logging log) fits = log_on_track shape lock reading log fits.1
fits_on_track shape known (InSection lock reading) (Copying (LoadShadow visit mask cell)) fits = fits.1.2
fits_on_track shape known (InSection lock reading) (Copying (StoreCell visit mask cell value)) fits = fits.1.2
fits_on_track shape known (InSection lock reading) (Copying _) fits = tt
fits_on_track shape known (InRecover begun done lock) (Recovering recovery) fits = tt
fits_on_track shape known (InPost job) (Posting slate) fits = tt
fits_on_track shape known (InEnter lock from) (Climbing ascent) fits = tt
fits_on_track shape known (InExit lock turn) (Leaving departure) fits = tt
fits_on_track shape known (InPartialExit lock levels) (Leaving departure) fits = tt
fits_on_track shape known (InWithdrawal lock levels) (Leaving departure) fits = tt
fits_on_track shape known _ _ fits = absurd fits

-- ---- counts

taken_in_exit : (shape : Shape) (first departure : Departure) (count : ℕ) → IsDepartureStage shape departure → ExitStepsTaken shape first departure count
    → count + departure_steps_left shape departure ≤ max_exit_steps shape first
taken_in_exit shape (LoadExitTurn lock) (LoadExitTurn here) count is taken = omega (arith, taken)
taken_in_exit shape (LoadExitTurn lock) (StoreExitTurn here turn) count is taken = omega (arith, taken)
taken_in_exit shape (LoadExitTurn lock) (Clear here level) count is taken = elim taken [ inl e ↦ omega (arith, e) | inr e ↦ omega (arith, e) ]
taken_in_exit shape (Clear lock levels) (Clear here level) count is taken = omega (arith, taken)
taken_in_exit shape (WithdrawPlace lock levels) (WithdrawPlace here held) count is taken = omega (arith, taken.0, taken.1)
taken_in_exit shape (WithdrawPlace lock levels) (WithdrawAt here held) count is taken = omega (arith, taken.0, taken.1)
taken_in_exit shape (WithdrawPlace lock levels) (WithdrawReply here held) count is taken = omega (arith, taken.0, taken.1)
taken_in_exit shape (WithdrawPlace lock levels) (WithdrawDone here held) count is taken = omega (arith, taken.0, taken.1)
taken_in_exit shape (WithdrawPlace lock levels) (Clear here level) count is taken = omega (arith, taken)
taken_in_exit shape _ _ count is taken = absurd taken

taken_most : (shape : Shape) (known : ℕ) (first stage : Stage) (count : ℕ) → IsStage shape known stage → IsOnTrack stage → StepsTaken shape first stage count
    → count + steps_left shape stage ≤ max_stay_steps shape first stage
taken_most shape known (Recovering first) (Recovering recovery) count is on taken = omega (arith, taken.1, recovery_column shape recovery is)
taken_most shape known (Posting first) (Posting slate) count is on taken = omega (arith, taken.2, is.2)
taken_most shape known (Climbing first) (Climbing ascent) count is on taken = omega (arith, taken, is.1)
taken_most shape known (Logging first) (Logging log) count is on taken = omega (arith, taken.1, log_column shape log is on)
taken_most shape known (Logging first) (Copying redo) count is on taken = omega (arith, taken.1, redo_column shape redo is)
taken_most shape known (Leaving first) (Leaving departure) count is on taken = taken_in_exit shape first departure count is taken
taken_most shape known Resting Resting count is on taken = omega (arith, taken)
taken_most shape known _ _ count is on taken = absurd taken

pub within_most : (shape : Shape) (private : Private) → IsPrivate shape private → IsOnTrack private.stage → IsWithinStayLimit shape private.stage (steps_left shape private.stage)
within_most shape private is on first count taken = taken_most shape private.begun first private.stage count is.stage on taken

-- The same for a number that is equal to the steps left.
pub column_by : (shape : Shape) (private : Private) (left : ℕ) → left ≡ steps_left shape private.stage → IsPrivate shape private → StepsLeftInAnyStay shape private left
column_by shape private left e is = subst (λ (n : ℕ). StepsLeftInAnyStay shape private n) (sym e) (column_is shape private is)

pub most_by : (shape : Shape) (private : Private) (left : ℕ) → left ≡ steps_left shape private.stage → IsPrivate shape private → IsOnTrack private.stage → IsWithinStayLimit shape private.stage left
most_by shape private left e is on = subst (λ (n : ℕ). IsWithinStayLimit shape private.stage n) (sym e) (within_most shape private is on)
