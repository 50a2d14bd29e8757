-- Actions, notes and stances as the plain numbers that C reads and writes.
use Rattle.std.specs.Prelude.{ℕ}
use Rattle.rme_words.specs.declared.shape.Shape.{Shape}
use Rattle.rme_words.specs.Words.{word_number}
use Rattle.rme_program.specs.declared.action.Action.{Action}
use Rattle.rme_program.specs.declared.action.Action.TheVariants.{Load, Store, Swap}
use Rattle.rme_program.specs.declared.note.Note.{Note}
use Rattle.rme_program.specs.declared.note.Note.TheVariants.{Quiet, Asked, Blocked, Entered, Reentered, Finished, Left, Ready, Withdrew}
use Rattle.rme_program.specs.declared.kinds.Phase.{Phase}
use Rattle.rme_program.specs.declared.kinds.Phase.TheVariants as phase
use Rattle.rme_program.specs.declared.stage.Stage.{Stage}
use Rattle.rme_program.specs.declared.stage.Stage.TheVariants.{Resting, Recovering, Posting, Climbing, Logging, Copying, Leaving}
use Rattle.rme_program.specs.declared.stage.Recovery.TheVariants.{LoadBegun, LoadDone, LoadLock, LoadPath}
use Rattle.rme_program.specs.declared.stage.Log.{Log}
use Rattle.rme_program.specs.declared.stage.Log.TheVariants.{LoadTurn, LoadLen, LoadSlate, LoadCells, StoreShadows, StoreShadowReply, StoreMask, StoreTurn}
use Rattle.rme_program.specs.declared.stage.Redo.{Redo}
use Rattle.rme_program.specs.declared.stage.Redo.TheVariants.{LoadMask, LoadShadow, StoreCell, LoadReply, StoreReply, StorePlace, StoreAt, StoreDone}
use Rattle.rme_program.specs.declared.stage.Departure.{Departure}
use Rattle.rme_program.specs.declared.stage.Departure.TheVariants.{LoadExitTurn, StoreExitTurn, Clear, WithdrawPlace, WithdrawAt, WithdrawReply, WithdrawDone}
use Rattle.rme_program.specs.declared.private.Private.{Private}
use Rattle.rme_program.specs.Phases.{phase_of}
use Rattle.rme_process_core.specs.declared.flat.FlatAction.{FlatAction}
use Rattle.rme_process_core.specs.declared.flat.FlatNote.{FlatNote}
use Rattle.rme_process_core.specs.declared.flat.FlatStance.{FlatStance}

-- A plain load, a load that expects this value, and one that expects an even number below 2^32.
abbrev pub flat_load : ℕ → FlatAction
flat_load word_number = record { kind = 1; word = word_number; value = 0 }

abbrev pub flat_expecting_load : ℕ → ℕ → FlatAction
flat_expecting_load word_number value = record { kind = 4; word = word_number; value = value }

abbrev pub flat_even_load : ℕ → FlatAction
flat_even_load word_number = record { kind = 5; word = word_number; value = 0 }

abbrev pub flat_store : ℕ → ℕ → FlatAction
flat_store word_number value = record { kind = 2; word = word_number; value = value }

-- A swap from 0, as each swap is.
abbrev pub flat_swap : ℕ → ℕ → FlatAction
flat_swap word_number value = record { kind = 3; word = word_number; value = value }

-- An action as plain numbers, on the word by its number among the shape's words.
abbrev pub flat_action : Shape → Action → FlatAction
flat_action shape (Load address) = flat_load (word_number shape address)
flat_action shape (Store address value) = flat_store (word_number shape address) value
flat_action shape (Swap address from to) = flat_swap (word_number shape address) to

abbrev pub flat_lock_note : ℕ → ℕ → FlatNote
flat_lock_note kind lock = record { kind = kind; worker = 0; lock = lock; number = 0; place = 0; reply = 0 }

abbrev pub flat_number_note : ℕ → ℕ → FlatNote
flat_number_note kind number = record { kind = kind; worker = 0; lock = 0; number = number; place = 0; reply = 0 }

-- A note by its kind; the numbers that this kind lacks are 0.
abbrev pub flat_note : Note → FlatNote
flat_note Quiet = flat_number_note 0 0
flat_note (Asked number) = flat_number_note 1 number
flat_note Blocked = flat_number_note 2 0
flat_note (Entered lock) = flat_lock_note 3 lock
flat_note (Reentered lock) = flat_lock_note 4 lock
flat_note (Finished receipt) =
    record {
      kind = 5;
      worker = receipt.worker;
      lock = receipt.lock;
      number = receipt.number;
      place = receipt.place;
      reply = receipt.reply;
    }
flat_note (Left lock) = flat_lock_note 6 lock
flat_note Ready = flat_number_note 7 0
flat_note (Withdrew number) = flat_number_note 8 number

-- The phases in order.
abbrev pub phase_number : Phase → ℕ
phase_number phase.Recover = 0
phase_number phase.Post = 1
phase_number phase.Enter = 2
phase_number phase.Section = 3
phase_number phase.Exit = 4
phase_number phase.Ready = 5

-- The lock at which a worker is.
abbrev pub stage_lock_of_log : Log → ℕ
stage_lock_of_log (LoadTurn lock) = lock
stage_lock_of_log (LoadLen lock turn) = lock
stage_lock_of_log (LoadSlate lock turn operations words loaded) = lock
stage_lock_of_log (LoadCells lock turn script named row cell) = lock
stage_lock_of_log (StoreShadows visit named row reply cell) = visit.lock
stage_lock_of_log (StoreShadowReply visit named reply) = visit.lock
stage_lock_of_log (StoreMask visit named) = visit.lock
stage_lock_of_log (StoreTurn visit) = visit.lock

abbrev pub stage_lock_of_redo : Redo → ℕ
stage_lock_of_redo (LoadMask visit) = visit.lock
stage_lock_of_redo (LoadShadow visit mask cell) = visit.lock
stage_lock_of_redo (StoreCell visit mask cell value) = visit.lock
stage_lock_of_redo (LoadReply visit mask) = visit.lock
stage_lock_of_redo (StoreReply visit mask reply) = visit.lock
stage_lock_of_redo (StorePlace visit mask reply) = visit.lock
stage_lock_of_redo (StoreAt visit mask reply) = visit.lock
stage_lock_of_redo (StoreDone visit mask reply) = visit.lock

abbrev pub stage_lock_of_departure : Departure → ℕ
stage_lock_of_departure (LoadExitTurn lock) = lock
stage_lock_of_departure (StoreExitTurn lock turn) = lock
stage_lock_of_departure (Clear lock level) = lock
stage_lock_of_departure (WithdrawPlace lock held) = lock
stage_lock_of_departure (WithdrawAt lock held) = lock
stage_lock_of_departure (WithdrawReply lock held) = lock
stage_lock_of_departure (WithdrawDone lock held) = lock

-- A ready worker is at no lock, and a recovering one has not read its lock yet.
abbrev pub no_lock : ℕ
no_lock = 4294967295

abbrev pub stage_lock_number : Stage → ℕ
stage_lock_number Resting = no_lock
stage_lock_number (Recovering LoadBegun) = no_lock
stage_lock_number (Recovering LoadDone) = no_lock
stage_lock_number (Recovering (LoadLock pending)) = no_lock
stage_lock_number (Recovering (LoadPath pending lock held)) = lock
stage_lock_number (Posting slate) = slate.job.lock
stage_lock_number (Climbing ascent) = ascent.lock
stage_lock_number (Logging log) = stage_lock_of_log log
stage_lock_number (Copying redo) = stage_lock_of_redo redo
stage_lock_number (Leaving departure) = stage_lock_of_departure departure

abbrev pub flat_stance : Private → FlatStance
flat_stance private =
    record {
      phase = phase_number (phase_of private.stage);
      lock = stage_lock_number private.stage;
      number =
          private.begun;
    }
