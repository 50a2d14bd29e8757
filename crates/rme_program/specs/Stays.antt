-- The stays of a worker in its phases: the row of each, the steps of it that a worker at a stage has made, and the
-- outcome of each step by the table. A reader of the step table can stop before THE KNOWLEDGE OF A STAGE: until there
-- is what a stay is, its row, and what its loads may find. THE THEOREM at the end says that each step of the code is
-- its row's, with its row's outcome; what lies between defines a worker's place in a row, and that outcome.
use Rattle.std.specs.Prelude.{◌≡◌, ◌≢◌, ℕ, ◌+◌, ◌-◌, ◌*◌, ◌/◌, ◌%◌, ◌<◌, ◌≤◌, Bool, true, ◌==◌, nat_lt, if◌then◌else◌, List, length, take, slice_index, Some}
use Rattle.std.specs.List.{slice_get}
use Rattle.rme_words.specs.declared.shape.Shape.{Shape}
use Rattle.rme_words.specs.declared.address.Address.TheVariants.{Begun, Done, At, SlateLock, SlateLen, SlateWord, Turn, Cell, Shadow, ShadowReply, Mask}
use Rattle.rme_tree.specs.Paths.{side}
use Rattle.rme_script.specs.declared.job.Job.{Job}
use Rattle.rme_script.specs.Cells.{mask_has_cell, ops_name_cell}
use Rattle.rme_script.specs.Eval.{eval_of}
use Rattle.rme_script.specs.Scripts.{IsScript}
use Rattle.rme_script.specs.Slates.{ops_words}
use Rattle.rme_program.specs.declared.action.Action.{Action}
use Rattle.rme_program.specs.declared.action.Action.TheVariants.{Load}
use Rattle.rme_program.specs.declared.note.Note.{Note}
use Rattle.rme_program.specs.declared.note.Note.TheVariants.{Quiet, Asked, Blocked, Entered, Reentered, Finished, Left, Ready, Withdrew}
use Rattle.rme_program.specs.declared.private.Private.{Private}
use Rattle.rme_program.specs.declared.stage.Stage.{Stage}
use Rattle.rme_program.specs.declared.stage.Stage.TheVariants.{Resting, Recovering, Posting, Climbing, Logging, Copying, Leaving}
use Rattle.rme_program.specs.declared.stage.Recovery.{Recovery}
use Rattle.rme_program.specs.declared.stage.Recovery.TheVariants.{LoadBegun, LoadDone, LoadLock, LoadPath}
use Rattle.rme_program.specs.declared.stage.Log.{Log}
use Rattle.rme_program.specs.declared.stage.Log.TheVariants.{LoadTurn, LoadLen, LoadSlate, LoadCells, StoreShadows, StoreShadowReply, StoreMask, StoreTurn}
use Rattle.rme_program.specs.declared.stage.Redo.{Redo}
use Rattle.rme_program.specs.declared.stage.Redo.TheVariants.{LoadMask, LoadShadow, StoreCell, LoadReply, StoreReply, StorePlace, StoreAt, StoreDone}
use Rattle.rme_program.specs.declared.stage.Departure.{Departure}
use Rattle.rme_program.specs.declared.stage.Departure.TheVariants.{LoadExitTurn, StoreExitTurn, Clear, WithdrawPlace, WithdrawAt, WithdrawReply, WithdrawDone}
use Rattle.rme_program.specs.declared.stage.Visit.{Visit}
use Rattle.rme_program.specs.declared.stage.Parity.{Parity}
use Rattle.rme_program.specs.declared.stage.Parity.TheVariants.{Even, Odd}
use Rattle.rme_program.specs.Masks.{mask_of}
use Rattle.rme_program.specs.Steps.{private_action}
use Rattle.rme_program.specs.Table.{Reading, recover_row, post_row, enter_row, section_row, exit_row, clear_row, withdraw_row}
use Rattle.rme_program.specs.StepsMade.{steps_made_in_recovery, steps_made_in_log, steps_made_in_redo}

-- One stay in a phase, by the values on which its row depends: those fixed at its start, and those that its loads find.
pub data Stay : Type 0 where
  -- Recover: the values of Begun and Done, and the lock of the last job.
  InRecover : (begun done lock : ℕ) → Stay
  InPost : (job : Job) → Stay
  -- Enter, with `from` levels held at its start.
  InEnter : (lock from : ℕ) → Stay
  InSection : (lock : ℕ) (reading : Reading) → Stay
  -- The three forms of Exit: with this turn, and with this number of levels held.
  InExit : (lock turn : ℕ) → Stay
  InPartialExit : (lock levels : ℕ) → Stay
  InWithdrawal : (lock levels : ℕ) → Stay

-- The row of a stay of this worker, which knows this value of `begun`.
abbrev pub stay_row : Shape → ℕ → ℕ → Stay → List Action
stay_row shape worker known (InRecover begun done lock) = recover_row shape worker (nat_lt done begun) lock
stay_row shape worker known (InPost job) = post_row worker known job
stay_row shape worker known (InEnter lock from) = enter_row shape worker lock from
stay_row shape worker known (InSection lock reading) = section_row shape worker known lock reading
stay_row shape worker known (InExit lock turn) = exit_row shape worker lock turn
stay_row shape worker known (InPartialExit lock levels) = clear_row shape worker lock levels
stay_row shape worker known (InWithdrawal lock levels) = withdraw_row shape worker known lock levels

-- The stage in which a stay begins.
abbrev pub first_stage : Stay → Stage
first_stage (InRecover begun done lock) = Recovering LoadBegun
first_stage (InPost job) = Posting record { job = job; stored = 0 }
first_stage (InEnter lock from) = Climbing record { lock = lock; held = from }
first_stage (InSection lock reading) = Logging (LoadTurn lock)
first_stage (InExit lock turn) = Leaving (LoadExitTurn lock)
first_stage (InPartialExit lock levels) = Leaving (Clear lock levels)
first_stage (InWithdrawal lock levels) = Leaving (WithdrawPlace lock levels)

-- The values that a load of a stay may find. A node may have any value, and so may the word of a swap.
abbrev pub StayLoadFinds : Stay → Action → ℕ → Type 0
StayLoadFinds (InRecover begun done lock) (Load (Begun worker)) value = value ≡ begun
StayLoadFinds (InRecover begun done lock) (Load (Done worker)) value = value ≡ done
StayLoadFinds (InRecover begun done lock) (Load (SlateLock worker)) value = value ≡ lock
StayLoadFinds (InRecover begun done lock) (Load (At worker)) value = value ≡ lock
StayLoadFinds (InSection lock reading) (Load (Turn here)) value = value ≡ reading.turn
StayLoadFinds (InSection lock reading) (Load (SlateLen worker)) value = value ≡ reading.script.n
StayLoadFinds (InSection lock reading) (Load (SlateWord worker operation part)) value =
    value ≡ slice_index (ops_words reading.script.ops) (3 * operation + part)
StayLoadFinds (InSection lock reading) (Load (Cell here cell)) value = value ≡ slice_index reading.cells cell
StayLoadFinds (InSection lock reading) (Load (Mask here)) value = value ≡ reading.mask
StayLoadFinds (InSection lock reading) (Load (Shadow here cell)) value = value ≡ slice_index reading.shadows cell
StayLoadFinds (InSection lock reading) (Load (ShadowReply here)) value = value ≡ reading.reply
StayLoadFinds (InExit lock turn) (Load (Turn here)) value = value ≡ turn
StayLoadFinds _ _ value = Unit {0}

-- THE KNOWLEDGE OF A STAGE: a worker at the stage is in the stay, and knows what the stay's loads found.

abbrev pub RecoveryIsInStay : ℕ → ℕ → ℕ → ℕ → Recovery → Type 0
RecoveryIsInStay known begun done lock LoadBegun = Unit {0}
RecoveryIsInStay known begun done lock LoadDone = known ≡ begun
RecoveryIsInStay known begun done lock (LoadLock pending) = (known ≡ begun) × (pending ≡ nat_lt done begun)
RecoveryIsInStay known begun done lock (LoadPath pending here held) =
    (known ≡ begun) × (pending ≡ nat_lt done begun) × (here ≡ lock)

-- How a section began, by its turn.
abbrev pub reading_parity : Reading → Parity
reading_parity reading = if reading.turn % 2 == 0 then Even reading.script.n (mask_of reading.script.ops) else Odd

abbrev pub reading_visit : ℕ → Reading → Visit
reading_visit lock reading = record { lock = lock; turn = reading.turn; parity = reading_parity reading }

-- The script is one of the shape's, and the cells are the lock's.
pub record IsReading (shape : Shape) (reading : Reading) : Type 0 where
  pub script : IsScript shape.cells reading.script
  pub cells : length reading.cells ≡ shape.cells

-- Two rows agree in the cells that the script names, before a cell.
abbrev pub RowsAgreeBefore : Reading → ℕ → List ℕ → List ℕ → Type 0
RowsAgreeBefore reading cell row other =
    (c : ℕ) → c < cell → ops_name_cell reading.script.ops c ≡ true → slice_index row c ≡ slice_index other c

abbrev pub IsEvenReading : Reading → Type 0
IsEvenReading reading = reading.turn % 2 ≡ 0

abbrev pub LogIsInStay : Shape → ℕ → Reading → Log → Type 0
LogIsInStay shape lock reading (LoadTurn here) = here ≡ lock
LogIsInStay shape lock reading (LoadLen here turn) = IsEvenReading reading × (here ≡ lock) × (turn ≡ reading.turn)
LogIsInStay shape lock reading (LoadSlate here turn operations words loaded) =
    IsEvenReading reading × (here ≡ lock) × (turn ≡ reading.turn) × (operations ≡ reading.script.n)
    × (length words ≡ 24)
    × (take loaded words ≡ take loaded (ops_words reading.script.ops))
LogIsInStay shape lock reading (LoadCells here turn script named row cell) =
    IsEvenReading reading × (here ≡ lock) × (turn ≡ reading.turn) × (script ≡ reading.script)
    × (named ≡ mask_of reading.script.ops) × (mask_has_cell named cell ≡ true)
    × (length row ≡ shape.cells) × RowsAgreeBefore reading cell row reading.cells
LogIsInStay shape lock reading (StoreShadows visit named row reply cell) =
    IsEvenReading reading × (visit ≡ reading_visit lock reading) × (named ≡ mask_of reading.script.ops)
    × (mask_has_cell named cell ≡ true)
    × RowsAgreeBefore reading shape.cells row (eval_of reading.script.ops reading.cells).row
    × (reply ≡ (eval_of reading.script.ops reading.cells).reply)
LogIsInStay shape lock reading (StoreShadowReply visit named reply) =
    IsEvenReading reading × (visit ≡ reading_visit lock reading) × (named ≡ mask_of reading.script.ops)
    × (reply ≡ (eval_of reading.script.ops reading.cells).reply)
LogIsInStay shape lock reading (StoreMask visit named) =
    IsEvenReading reading × (visit ≡ reading_visit lock reading) × (named ≡ mask_of reading.script.ops)
LogIsInStay shape lock reading (StoreTurn visit) = IsEvenReading reading × (visit ≡ reading_visit lock reading)

abbrev pub RedoIsInStay : ℕ → Reading → Redo → Type 0
RedoIsInStay lock reading (LoadMask visit) = visit ≡ reading_visit lock reading
RedoIsInStay lock reading (LoadShadow visit mask cell) =
    (visit ≡ reading_visit lock reading) × (mask ≡ reading.mask) × (mask_has_cell mask cell ≡ true)
RedoIsInStay lock reading (StoreCell visit mask cell value) =
    (visit ≡ reading_visit lock reading) × (mask ≡ reading.mask) × (mask_has_cell mask cell ≡ true)
    × (value ≡ slice_index reading.shadows cell)
RedoIsInStay lock reading (LoadReply visit mask) = (visit ≡ reading_visit lock reading) × (mask ≡ reading.mask)
RedoIsInStay lock reading (StoreReply visit mask reply) =
    (visit ≡ reading_visit lock reading) × (mask ≡ reading.mask) × (reply ≡ reading.reply)
RedoIsInStay lock reading (StorePlace visit mask reply) =
    (visit ≡ reading_visit lock reading) × (mask ≡ reading.mask) × (reply ≡ reading.reply)
RedoIsInStay lock reading (StoreAt visit mask reply) =
    (visit ≡ reading_visit lock reading) × (mask ≡ reading.mask) × (reply ≡ reading.reply)
RedoIsInStay lock reading (StoreDone visit mask reply) =
    (visit ≡ reading_visit lock reading) × (mask ≡ reading.mask) × (reply ≡ reading.reply)

abbrev pub ExitIsInStay : Shape → ℕ → ℕ → Departure → Type 0
ExitIsInStay shape lock turn (LoadExitTurn here) = here ≡ lock
ExitIsInStay shape lock turn (StoreExitTurn here odd) = (here ≡ lock) × (odd ≡ turn) × (turn % 2 ≢ 0)
ExitIsInStay shape lock turn (Clear here level) = (here ≡ lock) × (level ≤ shape.height)
ExitIsInStay shape lock turn _ = ⊥

abbrev pub PartialExitIsInStay : Shape → ℕ → ℕ → Departure → Type 0
PartialExitIsInStay shape lock levels (Clear here level) = (here ≡ lock) × (level ≤ levels) × (levels < shape.height)
PartialExitIsInStay shape lock levels _ = ⊥

abbrev pub WithdrawalIsInStay : Shape → ℕ → ℕ → Departure → Type 0
WithdrawalIsInStay shape lock levels (WithdrawPlace here held) = (here ≡ lock) × (held ≡ levels)
WithdrawalIsInStay shape lock levels (WithdrawAt here held) = (here ≡ lock) × (held ≡ levels)
WithdrawalIsInStay shape lock levels (WithdrawReply here held) = (here ≡ lock) × (held ≡ levels)
WithdrawalIsInStay shape lock levels (WithdrawDone here held) = (here ≡ lock) × (held ≡ levels)
WithdrawalIsInStay shape lock levels (Clear here level) = (here ≡ lock) × (level ≤ levels) × (levels < shape.height)
WithdrawalIsInStay shape lock levels _ = ⊥

abbrev pub StageIsInStay : Shape → ℕ → Stay → Stage → Type 0
StageIsInStay shape known (InRecover begun done lock) (Recovering recovery) =
    RecoveryIsInStay known begun done lock recovery
StageIsInStay shape known (InPost job) (Posting slate) = slate.job ≡ job
StageIsInStay shape known (InEnter lock from) (Climbing ascent) = (ascent.lock ≡ lock) × (from ≤ ascent.held)
StageIsInStay shape known (InSection lock reading) (Logging log) =
    IsReading shape reading × LogIsInStay shape lock reading log
StageIsInStay shape known (InSection lock reading) (Copying redo) =
    IsReading shape reading × RedoIsInStay lock reading redo
StageIsInStay shape known (InExit lock turn) (Leaving departure) = ExitIsInStay shape lock turn departure
StageIsInStay shape known (InPartialExit lock levels) (Leaving departure) =
    PartialExitIsInStay shape lock levels departure
StageIsInStay shape known (InWithdrawal lock levels) (Leaving departure) =
    WithdrawalIsInStay shape lock levels departure
StageIsInStay shape known _ _ = ⊥

-- THE STEPS OF THE ROW THAT ARE MADE

abbrev pub steps_made_in_exit : Shape → ℕ → Departure → ℕ
steps_made_in_exit shape turn (StoreExitTurn lock odd) = 1
steps_made_in_exit shape turn (Clear lock level) = 1 + turn % 2 + (shape.height - level)
steps_made_in_exit shape turn _ = 0

abbrev pub steps_made_in_partial_exit : ℕ → Departure → ℕ
steps_made_in_partial_exit levels (Clear lock level) = levels - level
steps_made_in_partial_exit levels _ = 0

abbrev pub steps_made_in_withdrawal : ℕ → Departure → ℕ
steps_made_in_withdrawal levels (WithdrawAt lock held) = 1
steps_made_in_withdrawal levels (WithdrawReply lock held) = 2
steps_made_in_withdrawal levels (WithdrawDone lock held) = 3
steps_made_in_withdrawal levels (Clear lock level) = 4 + (levels - level)
steps_made_in_withdrawal levels _ = 0

abbrev pub steps_made_in_row : Shape → Stay → Stage → ℕ
steps_made_in_row shape (InRecover begun done lock) (Recovering recovery) = steps_made_in_recovery recovery
steps_made_in_row shape (InPost job) (Posting slate) = slate.stored
steps_made_in_row shape (InEnter lock from) (Climbing ascent) = ascent.held - from
steps_made_in_row shape (InSection lock reading) (Logging log) = steps_made_in_log shape log
steps_made_in_row shape (InSection lock reading) (Copying redo) = steps_made_in_redo shape redo
steps_made_in_row shape (InExit lock turn) (Leaving departure) = steps_made_in_exit shape turn departure
steps_made_in_row shape (InPartialExit lock levels) (Leaving departure) = steps_made_in_partial_exit levels departure
steps_made_in_row shape (InWithdrawal lock levels) (Leaving departure) = steps_made_in_withdrawal levels departure
steps_made_in_row shape _ _ = 0

-- THE OUTCOME OF EACH STEP

-- After a step a stay continues, is blocked at the same place, or ends with the worker at this stage.
pub data StayOutcome : Type 0 where
  Goes : StayOutcome
  Stays : StayOutcome
  Leads : (next : Stage) → StayOutcome

-- Recover, the load of the node at a level. If all levels have the worker's side, the worker has re-entered.
abbrev pub path_outcome : Shape → ℕ → Bool → ℕ → ℕ → ℕ → StayOutcome × Note
path_outcome shape worker pending lock level value =
    if value == side shape.leaves worker level
    then (if level == shape.height then (
      Leads
          (if pending then Logging (LoadTurn lock) else Leaving (LoadExitTurn lock)),
      Reentered lock,
    ) else (Goes, Quiet))
    else if pending then (Leads (Climbing record { lock = lock; held = level - 1 }), Quiet)
    else if level == 1 then (Leads Resting, Ready)
    else (Leads (Leaving (Clear lock (level - 1))), Quiet)

-- What the first loads of Recover find.
pub record RecoveryReading : Type 0 where
  pub begun : ℕ
  pub done : ℕ
  pub lock : ℕ

abbrev pub recovery_reading : ℕ → ℕ → ℕ → RecoveryReading
recovery_reading begun done lock = record { begun = begun; done = done; lock = lock }

abbrev pub recover_outcome : Shape → ℕ → RecoveryReading → ℕ → ℕ → StayOutcome × Note
recover_outcome shape worker reading place value =
    if nat_lt 2 place then path_outcome shape worker (nat_lt reading.done reading.begun) reading.lock (place - 2) value
    else if place == 1 then (if reading.begun == 0 then (Leads Resting, Ready) else (Goes, Quiet))
    else (Goes, Quiet)

-- Post: the store of Begun is the last.
abbrev pub post_outcome : ℕ → Job → ℕ → StayOutcome × Note
post_outcome known job place =
    if place == 2 + 3 * job.script.n then (Leads (Climbing record { lock = job.lock; held = 0 }), Asked (known + 1))
    else (Goes, Quiet)

-- Enter, the swap of the node at a level.
abbrev pub enter_outcome : Shape → ℕ → ℕ → ℕ → StayOutcome × Note
enter_outcome shape lock level value =
    if value == 0
    then (if level == shape.height then (Leads (Logging (LoadTurn lock)), Entered lock) else (Goes, Quiet))
    else (Stays, Blocked)

-- Section: the store of Done is the last.
abbrev pub section_outcome : ℕ → ℕ → ℕ → Reading → Bool → StayOutcome × Note
section_outcome worker known lock reading last =
    if last
    then (
      Leads (Leaving (LoadExitTurn lock)),
      Finished record
          { worker = worker; lock = lock; number = known; place = reading.turn / 2; reply = reading.reply },
    )
    else (Goes, Quiet)

-- Exit, the store of 0 into the node at a level, in the full form and in the others.
abbrev pub clear_stay_outcome : ℕ → StayOutcome
clear_stay_outcome level = if level == 1 then Leads Resting else Goes

abbrev pub clear_outcome : ℕ → StayOutcome × Note
clear_outcome level = (clear_stay_outcome level, if level == 1 then Ready else Quiet)

abbrev pub whole_clear_outcome : Shape → ℕ → ℕ → StayOutcome × Note
whole_clear_outcome shape lock level =
    (clear_stay_outcome level, if level == shape.height then Left lock else if level == 1 then Ready else Quiet)

abbrev pub exit_outcome : Shape → ℕ → ℕ → ℕ → StayOutcome × Note
exit_outcome shape lock turn place =
    if nat_lt place (1 + turn % 2) then (Goes, Quiet) else whole_clear_outcome shape lock
    (shape.height - (place - (1 + turn % 2)))

abbrev pub withdraw_outcome : ℕ → ℕ → ℕ → StayOutcome × Note
withdraw_outcome known levels place =
    if nat_lt place 3 then (Goes, Quiet)
    else if place == 3 then (if levels == 0 then Leads Resting else Goes, Withdrew known)
    else clear_outcome (levels - (place - 4))

-- The outcome of the step at a place of a stay's row, with this value loaded or found.
abbrev pub row_step_outcome : Shape → ℕ → ℕ → Stay → ℕ → ℕ → StayOutcome × Note
row_step_outcome shape worker known (InRecover begun done lock) place value =
    recover_outcome shape worker (recovery_reading begun done lock) place value
row_step_outcome shape worker known (InPost job) place value = post_outcome known job place
row_step_outcome shape worker known (InEnter lock from) place value = enter_outcome shape lock (from + place + 1) value
row_step_outcome shape worker known (InSection lock reading) place value =
    section_outcome worker known lock reading (place + 1 == length (section_row shape worker known lock reading))
row_step_outcome shape worker known (InExit lock turn) place value = exit_outcome shape lock turn place
row_step_outcome shape worker known (InPartialExit lock levels) place value = clear_outcome (levels - place)
row_step_outcome shape worker known (InWithdrawal lock levels) place value = withdraw_outcome known levels place

-- If a stay continues, the worker is at the row's next place, in the same stay.
abbrev pub IsStayOutcome : Shape → Stay → Private → Private → StayOutcome → Type 0
IsStayOutcome shape stay old new Goes =
    StageIsInStay shape new.begun stay new.stage
    × (steps_made_in_row shape stay new.stage ≡ steps_made_in_row shape stay old.stage + 1)
IsStayOutcome shape stay old new Stays = new ≡ old
IsStayOutcome shape stay old new (Leads stage) = new.stage ≡ stage

-- THE THEOREM

-- The next action of a worker in a stay is its row's at its place.
abbrev pub ActionIsInRow : Shape → Private → Action → Type 0
ActionIsInRow shape private action =
    (stay : Stay) → StageIsInStay shape private.begun stay private.stage
    → slice_get (stay_row shape private.worker private.begun stay) (steps_made_in_row shape stay private.stage) ≡ Some
    action

-- The result is the table's outcome at that place.
pub record IsRowStepOutcome (shape : Shape) (old : Private) (stay : Stay) (value : ℕ) (new : Private) (note : Note) :
    Type 0 where
  pub says : note ≡ (row_step_outcome shape old.worker old.begun stay (steps_made_in_row shape stay old.stage) value).1
  pub onward : IsStayOutcome shape stay old new
      (row_step_outcome shape old.worker old.begun stay (steps_made_in_row shape stay old.stage) value).0

abbrev pub StepFollowsRow : Shape → Private → ℕ → Private → Note → Type 0
StepFollowsRow shape old value new note =
    (stay : Stay) → StageIsInStay shape old.begun stay old.stage → StayLoadFinds stay (private_action shape old) value
    → IsRowStepOutcome shape old stay value new note

-- A worker is at a place of a row: it is in a stay and knows the values that it found, and its next action is the row's
-- at its place.
pub record WorkerIsAtRow (shape : Shape) (private : Private) : Type 0 where
  pub stay : Stay
  pub fits : StageIsInStay shape private.begun stay private.stage
  pub here : slice_get (stay_row shape private.worker private.begun stay) (steps_made_in_row shape stay private.stage) ≡
      Some (private_action shape private)
