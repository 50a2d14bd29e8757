-- The preconditions of `next` and `after`: a private state of the shape, and values that a world's words hold.
use Rattle.std.specs.Prelude.{◌≡◌, ℕ, ◌+◌, ◌*◌, ◌^◌, ◌<◌, ◌≤◌, length, slice_set, Some}
use Rattle.rme_words.specs.declared.shape.Shape.{Shape}
use Rattle.rme_script.specs.Programs.{Program}
use Rattle.rme_script.specs.Scripts.{IsScript}
use Rattle.rme_script.specs.Jobs.{IsJob}
use Rattle.rme_script.specs.Slates.{script_from_words}
use Rattle.rme_program.specs.declared.private.Private.{Private}
use Rattle.rme_program.specs.declared.stage.Stage.{Stage}
use Rattle.rme_program.specs.declared.stage.Stage.TheVariants.{Resting, Recovering, Posting, Climbing, Logging, Copying, Leaving}
use Rattle.rme_program.specs.declared.stage.Recovery.{Recovery}
use Rattle.rme_program.specs.declared.stage.Recovery.TheVariants.{LoadBegun, LoadDone, LoadLock, LoadPath}
use Rattle.rme_program.specs.declared.stage.Log.{Log}
use Rattle.rme_program.specs.declared.stage.Log.TheVariants.{LoadTurn, LoadLen, LoadSlate, LoadCells, StoreShadows, StoreShadowReply, StoreMask, StoreTurn}
use Rattle.rme_program.specs.declared.stage.Redo.{Redo}
use Rattle.rme_program.specs.declared.stage.Redo.TheVariants.{LoadMask, LoadShadow, StoreCell, LoadReply, StoreReply, StorePlace, StoreAt, StoreDone}
use Rattle.rme_program.specs.declared.stage.Departure.{Departure}
use Rattle.rme_program.specs.declared.stage.Departure.TheVariants.{LoadExitTurn, StoreExitTurn, Clear, WithdrawPlace, WithdrawAt, WithdrawReply, WithdrawDone}

-- The knowledge at each stage is of the shape.
abbrev pub IsRecoveryStage : Shape → Recovery → Type 0
IsRecoveryStage shape LoadBegun = Unit {0}
IsRecoveryStage shape LoadDone = Unit {0}
IsRecoveryStage shape (LoadLock pending) = Unit {0}
IsRecoveryStage shape (LoadPath pending lock held) = (lock < shape.locks) × (held < shape.height)

abbrev pub IsLogStage : Shape → Log → Type 0
IsLogStage shape (LoadTurn lock) = lock < shape.locks
IsLogStage shape (LoadLen lock turn) = lock < shape.locks
IsLogStage shape (LoadSlate lock turn operations words loaded) =
    (lock < shape.locks) × (operations ≤ 8) × (loaded < 3 * operations)
IsLogStage shape (LoadCells lock turn script named row cell) =
    (lock < shape.locks) × (cell < shape.cells) × (length row ≡ shape.cells) × IsScript shape.cells script
IsLogStage shape (StoreShadows visit named row reply cell) =
    (visit.lock < shape.locks) × (cell < shape.cells) × (length row ≡ shape.cells)
IsLogStage shape (StoreShadowReply visit named reply) = visit.lock < shape.locks
IsLogStage shape (StoreMask visit named) = visit.lock < shape.locks
IsLogStage shape (StoreTurn visit) = visit.lock < shape.locks

abbrev pub IsRedoStage : Shape → Redo → Type 0
IsRedoStage shape (LoadMask visit) = visit.lock < shape.locks
IsRedoStage shape (LoadShadow visit mask cell) = (visit.lock < shape.locks) × (cell < shape.cells)
IsRedoStage shape (StoreCell visit mask cell value) = (visit.lock < shape.locks) × (cell < shape.cells)
IsRedoStage shape (LoadReply visit mask) = visit.lock < shape.locks
IsRedoStage shape (StoreReply visit mask reply) = visit.lock < shape.locks
IsRedoStage shape (StorePlace visit mask reply) = visit.lock < shape.locks
IsRedoStage shape (StoreAt visit mask reply) = visit.lock < shape.locks
IsRedoStage shape (StoreDone visit mask reply) = visit.lock < shape.locks

abbrev pub IsDepartureStage : Shape → Departure → Type 0
IsDepartureStage shape (LoadExitTurn lock) = lock < shape.locks
IsDepartureStage shape (StoreExitTurn lock turn) = lock < shape.locks
IsDepartureStage shape (Clear lock level) = (lock < shape.locks) × (1 ≤ level) × (level ≤ shape.height)
IsDepartureStage shape (WithdrawPlace lock held) = (lock < shape.locks) × (held < shape.height)
IsDepartureStage shape (WithdrawAt lock held) = (lock < shape.locks) × (held < shape.height)
IsDepartureStage shape (WithdrawReply lock held) = (lock < shape.locks) × (held < shape.height)
IsDepartureStage shape (WithdrawDone lock held) = (lock < shape.locks) × (held < shape.height)

abbrev pub IsStage : Shape → ℕ → Stage → Type 0
IsStage shape begun Resting = Unit {0}
IsStage shape begun (Recovering recovery) = IsRecoveryStage shape recovery
IsStage shape begun (Posting slate) =
    (begun < shape.jobs) × IsJob shape slate.job × (slate.stored ≤ 2 + 3 * slate.job.script.n)
IsStage shape begun (Climbing ascent) = (ascent.lock < shape.locks) × (ascent.held < shape.height)
IsStage shape begun (Logging log) = IsLogStage shape log
IsStage shape begun (Copying redo) = IsRedoStage shape redo
IsStage shape begun (Leaving departure) = IsDepartureStage shape departure

-- A private state of a worker of the shape.
pub record IsPrivate (shape : Shape) (private : Private) : Type 0 where
  pub worker : private.worker < shape.workers
  pub begun : private.begun ≤ shape.jobs
  pub stage : IsStage shape private.begun private.stage

-- The values that a step may load: `begun` and `done` are at most the shape's jobs; a lock is one of the shape's; a
-- slate has at most eight operations and, once all its words are known, is a script of the shape; a turn is below 2^32.
-- Other words may have any value.
abbrev pub IsValidLoad : Shape → Stage → ℕ → Type 0
IsValidLoad shape (Recovering LoadBegun) value = value ≤ shape.jobs
IsValidLoad shape (Recovering LoadDone) value = value ≤ shape.jobs
IsValidLoad shape (Recovering (LoadLock pending)) value = value < shape.locks
IsValidLoad shape (Logging (LoadTurn lock)) value = value < 2 ^ 32
IsValidLoad shape (Logging (LoadLen lock turn)) value = value ≤ 8
IsValidLoad shape (Logging (LoadSlate lock turn operations words loaded)) value =
    loaded + 1 ≡ 3 * operations
    → (script : Program) × (script_from_words operations (slice_set words loaded value) ≡ Some script)
    × IsScript shape.cells script
IsValidLoad shape (Leaving (LoadExitTurn lock)) value = value < 2 ^ 32
IsValidLoad shape stage value = Unit {0}
