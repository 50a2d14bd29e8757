-- The next action of each stage, and its outcome for the value that is loaded or found. The rows of the step table are
-- in `Table`; here each stage has its own lines.
use Rattle.std.specs.Prelude.{ℕ, ◌+◌, ◌-◌, ◌*◌, ◌/◌, ◌%◌, Bool, true, false, ◌==◌, nat_lt, if◌then◌else◌, List, replicate, slice_index, slice_set, Option, Some, None}
use Rattle.rme_words.specs.declared.shape.Shape.{Shape}
use Rattle.rme_words.specs.declared.address.Address.TheVariants.{Begun, Done, Reply, Place, At, SlateLock, SlateLen, SlateWord, Node, Turn, Cell, Shadow, ShadowReply, Mask}
use Rattle.rme_tree.specs.Paths.{node, side}
use Rattle.rme_script.specs.declared.job.Job.{Job}
use Rattle.rme_script.specs.Programs.{Program}
use Rattle.rme_script.specs.Eval.{eval_of}
use Rattle.rme_program.specs.Masks.{mask_of, first_cell}
use Rattle.rme_script.specs.Slates.{slate_of, script_from_words}
use Rattle.rme_program.specs.declared.action.Action.{Action}
use Rattle.rme_program.specs.declared.action.Action.TheVariants.{Load, Store, Swap}
use Rattle.rme_program.specs.declared.note.Note.{Note}
use Rattle.rme_program.specs.declared.note.Note.TheVariants.{Quiet, Asked, Blocked, Entered, Reentered, Finished, Left, Ready, Withdrew}
use Rattle.rme_program.specs.declared.private.Private.{Private}
use Rattle.rme_program.specs.declared.stage.Stage.{Stage}
use Rattle.rme_program.specs.declared.stage.Stage.TheVariants.{Resting, Recovering, Posting, Climbing, Logging, Copying, Leaving}
use Rattle.rme_program.specs.declared.stage.Recovery.{Recovery}
use Rattle.rme_program.specs.declared.stage.Recovery.TheVariants.{LoadBegun, LoadDone, LoadLock, LoadPath}
use Rattle.rme_program.specs.declared.stage.Slate.{Slate}
use Rattle.rme_program.specs.declared.stage.Ascent.{Ascent}
use Rattle.rme_program.specs.declared.stage.Log.{Log}
use Rattle.rme_program.specs.declared.stage.Log.TheVariants.{LoadTurn, LoadLen, LoadSlate, LoadCells, StoreShadows, StoreShadowReply, StoreMask, StoreTurn}
use Rattle.rme_program.specs.declared.stage.Redo.{Redo}
use Rattle.rme_program.specs.declared.stage.Redo.TheVariants.{LoadMask, LoadShadow, StoreCell, LoadReply, StoreReply, StorePlace, StoreAt, StoreDone}
use Rattle.rme_program.specs.declared.stage.Departure.{Departure}
use Rattle.rme_program.specs.declared.stage.Departure.TheVariants.{LoadExitTurn, StoreExitTurn, Clear, WithdrawPlace, WithdrawAt, WithdrawReply, WithdrawDone}
use Rattle.rme_program.specs.declared.stage.Visit.{Visit}
use Rattle.rme_program.specs.declared.stage.Parity.TheVariants.{Even, Odd}

-- The place that marks a withdrawn number.
abbrev pub withdrawn_place : ℕ
withdrawn_place = 18446744073709551615

-- The stage to which a step leads, with a quiet note.
abbrev pub with_quiet_note : Stage → Stage × Note
with_quiet_note stage = (stage, Quiet)

-- RECOVER

abbrev pub recovery_action : Shape → ℕ → Recovery → Action
recovery_action shape worker LoadBegun = Load (Begun worker)
recovery_action shape worker LoadDone = Load (Done worker)
recovery_action shape worker (LoadLock true) = Load (SlateLock worker)
recovery_action shape worker (LoadLock false) = Load (At worker)
recovery_action shape worker (LoadPath pending lock held) = Load (Node lock (node shape.leaves worker (held + 1)))

-- The whole path is the worker's: its section continues, or its exit does.
abbrev pub reentry_stage : Bool → ℕ → Stage
reentry_stage true lock = Logging (LoadTurn lock)
reentry_stage false lock = Leaving (LoadExitTurn lock)

-- The first `held` nodes of the path are the worker's, the last of them just found.
abbrev pub after_own_node : Shape → Bool → ℕ → ℕ → Stage × Note
after_own_node shape pending lock held =
    if held == shape.height then (reentry_stage pending lock, Reentered lock) else
    (Recovering (LoadPath pending lock held), Quiet)

-- The next node is not the worker's.
abbrev pub after_other_node : Bool → ℕ → ℕ → Stage × Note
after_other_node true lock held = (Climbing record { lock = lock; held = held }, Quiet)
after_other_node false lock held = if held == 0 then (Resting, Ready) else (Leaving (Clear lock held), Quiet)

abbrev pub after_recovery : Shape → ℕ → ℕ → Recovery → ℕ → Stage × Note
after_recovery shape worker begun LoadBegun value = (Recovering LoadDone, Quiet)
after_recovery shape worker begun LoadDone value =
    if begun == 0 then (Resting, Ready) else (Recovering (LoadLock (nat_lt value begun)), Quiet)
after_recovery shape worker begun (LoadLock pending) value = (Recovering (LoadPath pending value 0), Quiet)
after_recovery shape worker begun (LoadPath pending lock held) value =
    if value == side shape.leaves worker (held + 1) then after_own_node shape pending lock (held + 1) else
    after_other_node pending lock held

-- POST

abbrev pub slate_action : ℕ → ℕ → Slate → Action
slate_action worker begun slate =
    if slate.stored == 0 then Store (SlateLock worker) slate.job.lock
    else if slate.stored == 1 then Store (SlateLen worker) slate.job.script.n
    else if nat_lt slate.stored (2 + 3 * slate.job.script.n)
    then Store (SlateWord worker ((slate.stored - 2) / 3) ((slate.stored - 2) % 3))
    (slice_index (slate_of slate.job.script.ops) (slate.stored - 2))
    else Store (Begun worker) (begun + 1)

abbrev pub after_slate : ℕ → Slate → Stage × Note
after_slate begun slate =
    if slate.stored == 2 + 3 * slate.job.script.n
    then (Climbing record { lock = slate.job.lock; held = 0 }, Asked (begun + 1))
    else (Posting record { job = slate.job; stored = slate.stored + 1 }, Quiet)

-- ENTER

abbrev pub ascent_action : Shape → ℕ → Ascent → Action
ascent_action shape worker ascent =
    Swap (Node ascent.lock (node shape.leaves worker (ascent.held + 1))) 0 (side shape.leaves worker (ascent.held + 1))

abbrev pub after_taken_node : Shape → ℕ → ℕ → Stage × Note
after_taken_node shape lock held =
    if held == shape.height then (Logging (LoadTurn lock), Entered lock) else
    (Climbing record { lock = lock; held = held }, Quiet)

abbrev pub after_ascent : Shape → Ascent → ℕ → Stage × Note
after_ascent shape ascent value =
    if value == 0 then after_taken_node shape ascent.lock (ascent.held + 1) else (Climbing ascent, Blocked)

-- SECTION, until the turn is odd

abbrev pub log_action : ℕ → Log → Action
log_action worker (LoadTurn lock) = Load (Turn lock)
log_action worker (LoadLen lock turn) = Load (SlateLen worker)
log_action worker (LoadSlate lock turn operations words loaded) = Load (SlateWord worker (loaded / 3) (loaded % 3))
log_action worker (LoadCells lock turn script named row cell) = Load (Cell lock cell)
log_action worker (StoreShadows visit named row reply cell) = Store (Shadow visit.lock cell) (slice_index row cell)
log_action worker (StoreShadowReply visit named reply) = Store (ShadowReply visit.lock) reply
log_action worker (StoreMask visit named) = Store (Mask visit.lock) named
log_action worker (StoreTurn visit) = Store (Turn visit.lock) (visit.turn + 1)

-- The shadow words of the named cells from here on are not yet stored.
abbrev pub shadow_stage_from : Visit → ℕ → List ℕ → ℕ → Option ℕ → Stage
shadow_stage_from visit named row reply (Some cell) = Logging (StoreShadows visit named row reply cell)
shadow_stage_from visit named row reply None = Logging (StoreShadowReply visit named reply)

-- A section at an even turn, of a script that names these cells.
pub record LoggingSection : Type 0 where
  pub lock : ℕ
  pub turn : ℕ
  pub script : Program
  pub named : ℕ

abbrev pub logging_section : ℕ → ℕ → Program → ℕ → LoggingSection
logging_section lock turn script named = record { lock = lock; turn = turn; script = script; named = named }

abbrev pub even_visit : ℕ → ℕ → Program → ℕ → Visit
even_visit lock turn script named = record { lock = lock; turn = turn; parity = Even script.n named }

-- The script is run on the row of the named cells.
abbrev pub run_stage : Shape → LoggingSection → List ℕ → Stage
run_stage shape section row =
    shadow_stage_from (even_visit section.lock section.turn section.script section.named) section.named
    (eval_of section.script.ops row).row (eval_of section.script.ops row).reply
    (first_cell section.named 0 shape.cells)

-- The named cells from here on are not yet loaded.
abbrev pub cell_stage_from : Shape → LoggingSection → List ℕ → Option ℕ → Stage
cell_stage_from shape section row (Some cell) =
    Logging (LoadCells section.lock section.turn section.script section.named row cell)
cell_stage_from shape section row None = run_stage shape section row

-- The script is known.
abbrev pub script_stage : Shape → ℕ → ℕ → Option Program → Stage
script_stage shape lock turn (Some script) =
    cell_stage_from shape (logging_section lock turn script (mask_of script.ops)) (replicate shape.cells 0)
    (first_cell (mask_of script.ops) 0 shape.cells)
script_stage shape lock turn None = Resting

-- The first `loaded` words of the slate are known.
abbrev pub slate_stage : Shape → ℕ → ℕ → ℕ → List ℕ → ℕ → Stage
slate_stage shape lock turn operations words loaded =
    if loaded == 3 * operations then script_stage shape lock turn (script_from_words operations words) else Logging
    (LoadSlate lock turn operations words loaded)

abbrev pub turn_stage : ℕ → ℕ → Stage
turn_stage lock turn =
    if turn % 2 == 0 then Logging (LoadLen lock turn) else Copying
    (LoadMask record { lock = lock; turn = turn; parity = Odd })

-- The logging continues, or everything is logged and the copying begins.
abbrev pub log_or_copy_stage : Log → Option Visit → Stage
log_or_copy_stage log None = Logging log
log_or_copy_stage log (Some visit) = Copying (LoadMask visit)

abbrev pub after_log : Shape → Log → ℕ → Stage
after_log shape (LoadTurn lock) value = turn_stage lock value
after_log shape (LoadLen lock turn) value = slate_stage shape lock turn value (replicate 24 0) 0
after_log shape (LoadSlate lock turn operations words loaded) value =
    slate_stage shape lock turn operations (slice_set words loaded value) (loaded + 1)
after_log shape (LoadCells lock turn script named row cell) value =
    cell_stage_from shape (logging_section lock turn script named) (slice_set row cell value)
    (first_cell named (cell + 1) shape.cells)
after_log shape (StoreShadows visit named row reply cell) value =
    shadow_stage_from visit named row reply (first_cell named (cell + 1) shape.cells)
after_log shape (StoreShadowReply visit named reply) value = Logging (StoreMask visit named)
after_log shape (StoreMask visit named) value = Logging (StoreTurn visit)
after_log shape (StoreTurn visit) value = Copying (LoadMask visit)

-- SECTION, from the odd turn on

abbrev pub redo_action : ℕ → ℕ → Redo → Action
redo_action worker begun (LoadMask visit) = Load (Mask visit.lock)
redo_action worker begun (LoadShadow visit mask cell) = Load (Shadow visit.lock cell)
redo_action worker begun (StoreCell visit mask cell value) = Store (Cell visit.lock cell) value
redo_action worker begun (LoadReply visit mask) = Load (ShadowReply visit.lock)
redo_action worker begun (StoreReply visit mask reply) = Store (Reply worker) reply
redo_action worker begun (StorePlace visit mask reply) = Store (Place worker) (visit.turn / 2)
redo_action worker begun (StoreAt visit mask reply) = Store (At worker) visit.lock
redo_action worker begun (StoreDone visit mask reply) = Store (Done worker) begun

-- The mask's cells from here on are not yet copied.
abbrev pub copy_stage_from : Visit → ℕ → Option ℕ → Stage
copy_stage_from visit mask (Some cell) = Copying (LoadShadow visit mask cell)
copy_stage_from visit mask None = Copying (LoadReply visit mask)

-- The job is done.
abbrev pub finish_outcome : ℕ → ℕ → Visit → ℕ → Stage × Note
finish_outcome worker begun visit reply = (
  Leaving (LoadExitTurn visit.lock),
  Finished record
      { worker = worker; lock = visit.lock; number = begun; place = visit.turn / 2; reply = reply },
)

abbrev pub after_redo : Shape → ℕ → ℕ → Redo → ℕ → Stage × Note
after_redo shape worker begun (LoadMask visit) value =
    (copy_stage_from visit value (first_cell value 0 shape.cells), Quiet)
after_redo shape worker begun (LoadShadow visit mask cell) value = (Copying (StoreCell visit mask cell value), Quiet)
after_redo shape worker begun (StoreCell visit mask cell copied) value =
    (copy_stage_from visit mask (first_cell mask (cell + 1) shape.cells), Quiet)
after_redo shape worker begun (LoadReply visit mask) value = (Copying (StoreReply visit mask value), Quiet)
after_redo shape worker begun (StoreReply visit mask reply) value = (Copying (StorePlace visit mask reply), Quiet)
after_redo shape worker begun (StorePlace visit mask reply) value = (Copying (StoreAt visit mask reply), Quiet)
after_redo shape worker begun (StoreAt visit mask reply) value = (Copying (StoreDone visit mask reply), Quiet)
after_redo shape worker begun (StoreDone visit mask reply) value = finish_outcome worker begun visit reply

-- EXIT

abbrev pub departure_action : Shape → ℕ → ℕ → Departure → Action
departure_action shape worker begun (LoadExitTurn lock) = Load (Turn lock)
departure_action shape worker begun (StoreExitTurn lock turn) = Store (Turn lock) (turn + 1)
departure_action shape worker begun (Clear lock level) = Store (Node lock (node shape.leaves worker level)) 0
departure_action shape worker begun (WithdrawPlace lock held) = Store (Place worker) withdrawn_place
departure_action shape worker begun (WithdrawAt lock held) = Store (At worker) lock
departure_action shape worker begun (WithdrawReply lock held) = Store (Reply worker) 0
departure_action shape worker begun (WithdrawDone lock held) = Store (Done worker) begun

-- The levels up to this one are still to be cleared.
abbrev pub clear_stage : ℕ → ℕ → Stage
clear_stage lock level = if level == 0 then Resting else Leaving (Clear lock level)

-- The node of a level was cleared: the root's clearing leaves the lock, and the lowest one's makes the worker ready.
abbrev pub cleared_note : Shape → ℕ → ℕ → Note
cleared_note shape lock level = if level == shape.height then Left lock else if level == 1 then Ready else Quiet

abbrev pub exit_stage : Shape → ℕ → ℕ → Stage
exit_stage shape lock turn =
    if turn % 2 == 0 then Leaving (Clear lock shape.height) else Leaving (StoreExitTurn lock turn)

abbrev pub after_departure : Shape → ℕ → Departure → ℕ → Stage × Note
after_departure shape begun (LoadExitTurn lock) value = (exit_stage shape lock value, Quiet)
after_departure shape begun (StoreExitTurn lock turn) value = (Leaving (Clear lock shape.height), Quiet)
after_departure shape begun (Clear lock level) value = (clear_stage lock (level - 1), cleared_note shape lock level)
after_departure shape begun (WithdrawPlace lock held) value = (Leaving (WithdrawAt lock held), Quiet)
after_departure shape begun (WithdrawAt lock held) value = (Leaving (WithdrawReply lock held), Quiet)
after_departure shape begun (WithdrawReply lock held) value = (Leaving (WithdrawDone lock held), Quiet)
after_departure shape begun (WithdrawDone lock held) value = (clear_stage lock held, Withdrew begun)

-- ALL STAGES

abbrev pub stage_action : Shape → ℕ → ℕ → Stage → Action
stage_action shape worker begun Resting = Load (Begun worker)
stage_action shape worker begun (Recovering recovery) = recovery_action shape worker recovery
stage_action shape worker begun (Posting slate) = slate_action worker begun slate
stage_action shape worker begun (Climbing ascent) = ascent_action shape worker ascent
stage_action shape worker begun (Logging log) = log_action worker log
stage_action shape worker begun (Copying redo) = redo_action worker begun redo
stage_action shape worker begun (Leaving departure) = departure_action shape worker begun departure

abbrev pub outcome_at : Shape → ℕ → ℕ → Stage → ℕ → Stage × Note
outcome_at shape worker begun Resting value = (Resting, Quiet)
outcome_at shape worker begun (Recovering recovery) value = after_recovery shape worker begun recovery value
outcome_at shape worker begun (Posting slate) value = after_slate begun slate
outcome_at shape worker begun (Climbing ascent) value = after_ascent shape ascent value
outcome_at shape worker begun (Logging log) value = (after_log shape log value, Quiet)
outcome_at shape worker begun (Copying redo) value = after_redo shape worker begun redo value
outcome_at shape worker begun (Leaving departure) value = after_departure shape begun departure value

-- The known value of `begun` after a step: it becomes known in Recover, and is counted up when a job is posted.
abbrev pub begun_after : ℕ → Stage → ℕ → ℕ
begun_after begun Resting value = begun
begun_after begun (Recovering LoadBegun) value = value
begun_after begun (Recovering LoadDone) value = begun
begun_after begun (Recovering (LoadLock pending)) value = begun
begun_after begun (Recovering (LoadPath pending lock held)) value = begun
begun_after begun (Posting slate) value = if slate.stored == 2 + 3 * slate.job.script.n then begun + 1 else begun
begun_after begun (Climbing ascent) value = begun
begun_after begun (Logging log) value = begun
begun_after begun (Copying redo) value = begun
begun_after begun (Leaving departure) value = begun

-- The next action of a worker.
abbrev pub private_action : Shape → Private → Action
private_action shape private = stage_action shape private.worker private.begun private.stage

-- The private state after that step, and its note.
abbrev pub private_after : Shape → Private → ℕ → Private
private_after shape private value = record {
  worker = private.worker;
  begun = begun_after private.begun private.stage value;
  stage = (outcome_at shape private.worker private.begun private.stage value).0;
}

abbrev pub note_after : Shape → Private → ℕ → Note
note_after shape private value = (outcome_at shape private.worker private.begun private.stage value).1

-- The private states of a worker that is ready, that restarts, that is given a job, and that withdraws.
abbrev pub ready_private : ℕ → ℕ → Private
ready_private worker begun = record { worker = worker; begun = begun; stage = Resting }

abbrev pub restarted_private : ℕ → Private
restarted_private worker = record { worker = worker; begun = 0; stage = Recovering LoadBegun }

abbrev pub submitted_private : Private → Job → Private
submitted_private private job =
    record { worker = private.worker; begun = private.begun; stage = Posting record { job = job; stored = 0 } }

abbrev pub withdrawing_stage : Stage → Stage
withdrawing_stage (Climbing ascent) = Leaving (WithdrawPlace ascent.lock ascent.held)
withdrawing_stage Resting = Resting
withdrawing_stage (Recovering recovery) = Recovering recovery
withdrawing_stage (Posting slate) = Posting slate
withdrawing_stage (Logging log) = Logging log
withdrawing_stage (Copying redo) = Copying redo
withdrawing_stage (Leaving departure) = Leaving departure

abbrev pub withdrawing_private : Private → Private
withdrawing_private private =
    record { worker = private.worker; begun = private.begun; stage = withdrawing_stage private.stage }
