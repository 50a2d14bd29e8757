-- The private invariant: what a private state records of its worker's own words, of the nodes that it counts as held,
-- and (while its worker owns the lock) of the lock's words, agrees with those words. The invariant is the last
-- definition, `PrivateInvariant`, over `StageKnowledge`: a reader can begin there, and stop. All definitions before
-- them are the cases of `StageKnowledge`, by stage: those of a section, of an idle worker, of Post, of Recover and of
-- Exit.
use Rattle.std.specs.Prelude.{◌≡◌, ℕ, ◌+◌, ◌-◌, ◌*◌, ◌/◌, ◌%◌, ◌<◌, ◌≤◌, true, false, List, length, slice_index, take, Some}
use Rattle.rme_words.specs.declared.shape.Shape.{Shape}
use Rattle.rme_script.specs.Cells.{mask_has_cell}
use Rattle.rme_script.specs.Programs.{Program}
use Rattle.rme_script.specs.Eval.{RunResult, eval_of}
use Rattle.rme_script.specs.Slates.{slate_of}
use Rattle.rme_program.specs.Masks.{mask_of}
use Rattle.rme_program.specs.Steps.{withdrawn_place}
use Rattle.rme_program.specs.Conditions.{IsPrivate}
use Rattle.rme_program.specs.declared.private.Private.{Private}
use Rattle.rme_program.specs.declared.stage.Stage.{Stage}
use Rattle.rme_program.specs.declared.stage.Stage.TheVariants.{Resting, Recovering, Posting, Climbing, Logging, Copying, Leaving}
use Rattle.rme_program.specs.declared.stage.Recovery.{Recovery}
use Rattle.rme_program.specs.declared.stage.Recovery.TheVariants.{LoadBegun, LoadDone, LoadLock, LoadPath}
use Rattle.rme_program.specs.declared.stage.Slate.{Slate}
use Rattle.rme_program.specs.declared.stage.Log.{Log}
use Rattle.rme_program.specs.declared.stage.Log.TheVariants.{LoadTurn, LoadLen, LoadSlate, LoadCells, StoreShadows, StoreShadowReply, StoreMask, StoreTurn}
use Rattle.rme_program.specs.declared.stage.Redo.{Redo}
use Rattle.rme_program.specs.declared.stage.Redo.TheVariants.{LoadMask, LoadShadow, StoreCell, LoadReply, StoreReply, StorePlace, StoreAt, StoreDone}
use Rattle.rme_program.specs.declared.stage.Departure.{Departure}
use Rattle.rme_program.specs.declared.stage.Departure.TheVariants.{LoadExitTurn, StoreExitTurn, Clear, WithdrawPlace, WithdrawAt, WithdrawReply, WithdrawDone}
use Rattle.rme_program.specs.declared.stage.Visit.{Visit}
use Rattle.rme_program.specs.declared.stage.Parity.{Parity}
use Rattle.rme_program.specs.declared.stage.Parity.TheVariants.{Even, Odd}
use Rattle.rme_machine.specs.Views.{WorkerWords, LockWords, is_pending, current_lock, slate_script}

-- Two lists agree at each cell of the mask below `until`.
abbrev pub ListsAgreeBelow : ℕ → ℕ → List ℕ → List ℕ → Type 0
ListsAgreeBelow mask until xs ys =
    (c : ℕ) → c < until → mask_has_cell mask c ≡ true → slice_index xs c ≡ slice_index ys c

-- The turn is even, and is the loaded one.
abbrev pub IsEvenTurn : LockWords → ℕ → Type 0
IsEvenTurn lock turn = (lock.turn ≡ turn) × (turn % 2 ≡ 0)

-- The script of the slate was run on the lock's cells; `named` are the cells that it names.
pub record ScriptHasRun (own : WorkerWords) (lock : LockWords) (visit : Visit) (named : ℕ) : Type 0 where
  pub even : IsEvenTurn lock visit.turn
  pub script : Program
  pub slate : slate_script own ≡ Some script
  pub mask : named ≡ mask_of script.ops
  pub parity : visit.parity ≡ Even script.n named

-- The result of the script on the lock's cells.
abbrev pub script_result : LockWords → Program → RunResult
script_result lock script = eval_of script.ops lock.cells

-- The shadow words of all named cells and the shadow reply are those of the script's result.
abbrev pub ShadowsMatchResult : Shape → LockWords → ℕ → Program → Type 0
ShadowsMatchResult shape lock named script =
    ListsAgreeBelow named shape.cells lock.shadows (script_result lock script).row

-- What an owner knows of its section until the turn is odd.
abbrev pub LogKnowledge : Shape → WorkerWords → LockWords → Log → Type 0
LogKnowledge shape own lock (LoadTurn at) = Unit {0}
LogKnowledge shape own lock (LoadLen at turn) = IsEvenTurn lock turn
LogKnowledge shape own lock (LoadSlate at turn operations words loaded) =
    IsEvenTurn lock turn × (own.slate_len ≡ operations) × (length words ≡ 24)
    × (take loaded words ≡ take loaded own.slate)
LogKnowledge shape own lock (LoadCells at turn script named row cell) =
    IsEvenTurn lock turn × (slate_script own ≡ Some script) × (named ≡ mask_of script.ops)
    × (mask_has_cell named cell ≡ true) × ListsAgreeBelow named cell row lock.cells
LogKnowledge shape own lock (StoreShadows visit named row reply cell) =
    (run : ScriptHasRun own lock visit named)
    × ListsAgreeBelow named shape.cells row (script_result lock run.script).row
    × (reply ≡ (script_result lock run.script).reply)
    × (mask_has_cell named cell ≡ true) × ListsAgreeBelow named cell lock.shadows row
LogKnowledge shape own lock (StoreShadowReply visit named reply) =
    (run : ScriptHasRun own lock visit named) × ShadowsMatchResult shape lock named run.script
    × (reply ≡ (script_result lock run.script).reply)
LogKnowledge shape own lock (StoreMask visit named) =
    (run : ScriptHasRun own lock visit named) × ShadowsMatchResult shape lock named run.script
    × (lock.shadow_reply ≡ (script_result lock run.script).reply)
LogKnowledge shape own lock (StoreTurn visit) =
    (run : ScriptHasRun own lock visit lock.mask) × ShadowsMatchResult shape lock lock.mask run.script
    × (lock.shadow_reply ≡ (script_result lock run.script).reply)

-- How the section began: at an even turn, and then the mask is the set of the cells that the script names; or at an odd
-- turn, and then only the mask's value is known.
abbrev pub ParityKnowledge : WorkerWords → LockWords → ℕ → Parity → Type 0
ParityKnowledge own lock turn Odd = turn % 2 ≡ 1
ParityKnowledge own lock turn (Even operations cells) =
    (script : Program) × (slate_script own ≡ Some script) × (operations ≡ script.n) × (cells ≡ mask_of script.ops)
    × (cells ≡ lock.mask) × (turn % 2 ≡ 0)

-- The turn is odd, in the section of the loaded turn.
abbrev pub IsOddTurn : WorkerWords → LockWords → Visit → Type 0
IsOddTurn own lock visit = (lock.turn ≡ 2 * (visit.turn / 2) + 1) × ParityKnowledge own lock visit.turn visit.parity

-- What an owner knows of its section from the odd turn on.
abbrev pub RedoKnowledge : Shape → WorkerWords → LockWords → Redo → Type 0
RedoKnowledge shape own lock (LoadMask visit) = IsOddTurn own lock visit
RedoKnowledge shape own lock (LoadShadow visit mask cell) =
    IsOddTurn own lock visit × (mask ≡ lock.mask) × ListsAgreeBelow mask cell lock.cells lock.shadows
    × (mask_has_cell mask cell ≡ true)
RedoKnowledge shape own lock (StoreCell visit mask cell value) =
    IsOddTurn own lock visit × (mask ≡ lock.mask) × ListsAgreeBelow mask cell lock.cells lock.shadows
    × (mask_has_cell mask cell ≡ true) × (value ≡ slice_index lock.shadows cell)
RedoKnowledge shape own lock (LoadReply visit mask) =
    IsOddTurn own lock visit × (mask ≡ lock.mask) × ListsAgreeBelow mask shape.cells lock.cells lock.shadows
RedoKnowledge shape own lock (StoreReply visit mask reply) =
    IsOddTurn own lock visit × (mask ≡ lock.mask) × ListsAgreeBelow mask shape.cells lock.cells lock.shadows
    × (reply ≡ lock.shadow_reply)
RedoKnowledge shape own lock (StorePlace visit mask reply) =
    IsOddTurn own lock visit × (mask ≡ lock.mask) × ListsAgreeBelow mask shape.cells lock.cells lock.shadows
    × (reply ≡ lock.shadow_reply) × (own.reply ≡ reply)
RedoKnowledge shape own lock (StoreAt visit mask reply) =
    IsOddTurn own lock visit × (mask ≡ lock.mask) × ListsAgreeBelow mask shape.cells lock.cells lock.shadows
    × (reply ≡ lock.shadow_reply) × (own.reply ≡ reply)
    × (own.place ≡ visit.turn / 2)
RedoKnowledge shape own lock (StoreDone visit mask reply) =
    IsOddTurn own lock visit × (mask ≡ lock.mask) × ListsAgreeBelow mask shape.cells lock.cells lock.shadows
    × (reply ≡ lock.shadow_reply) × (own.reply ≡ reply)
    × (own.place ≡ visit.turn / 2) × (own.at ≡ visit.lock)

-- The lock of an owner's stage.
abbrev pub log_lock : Log → ℕ
log_lock (LoadTurn lock) = lock
log_lock (LoadLen lock turn) = lock
log_lock (LoadSlate lock turn operations words loaded) = lock
log_lock (LoadCells lock turn script named row cell) = lock
log_lock (StoreShadows visit named row reply cell) = visit.lock
log_lock (StoreShadowReply visit named reply) = visit.lock
log_lock (StoreMask visit named) = visit.lock
log_lock (StoreTurn visit) = visit.lock

abbrev pub redo_lock : Redo → ℕ
redo_lock (LoadMask visit) = visit.lock
redo_lock (LoadShadow visit mask cell) = visit.lock
redo_lock (StoreCell visit mask cell value) = visit.lock
redo_lock (LoadReply visit mask) = visit.lock
redo_lock (StoreReply visit mask reply) = visit.lock
redo_lock (StorePlace visit mask reply) = visit.lock
redo_lock (StoreAt visit mask reply) = visit.lock
redo_lock (StoreDone visit mask reply) = visit.lock

-- The worker's job is pending on this lock, of which it holds `levels` levels.
pub record IsPendingAt (own : WorkerWords) (held : ℕ → ℕ) (begun lock levels : ℕ) : Type 0 where
  pub known : own.begun ≡ begun
  pub pending : is_pending own ≡ true
  pub slate : own.slate_lock ≡ lock
  pub holds : held lock ≡ levels

-- The worker's last job is done, at this lock, of which it holds `levels` levels.
pub record IsDoneAt (own : WorkerWords) (held : ℕ → ℕ) (begun lock levels : ℕ) : Type 0 where
  pub known : own.begun ≡ begun
  pub some : 0 < begun
  pub past : is_pending own ≡ false
  pub site : own.at ≡ lock
  pub holds : held lock ≡ levels

-- The worker has no job, and holds no node.
pub record IsIdleWorker (shape : Shape) (own : WorkerWords) (held : ℕ → ℕ) (begun : ℕ) : Type 0 where
  pub known : own.begun ≡ begun
  pub past : is_pending own ≡ false
  pub holds : (lock : ℕ) → lock < shape.locks → held lock ≡ 0

-- The first `slate.stored` words of a slate are stored.
pub record SlateIsStored (own : WorkerWords) (slate : Slate) : Type 0 where
  pub lock : 1 ≤ slate.stored → own.slate_lock ≡ slate.job.lock
  pub len : 2 ≤ slate.stored → own.slate_len ≡ slate.job.script.n
  pub words : take (slate.stored - 2) own.slate ≡ take (slate.stored - 2) (slate_of slate.job.script.ops)

-- What a restarted worker has found so far.
abbrev pub RecoveryKnowledge : WorkerWords → (ℕ → ℕ) → ℕ → Recovery → Type 0
RecoveryKnowledge own held begun LoadBegun = Unit {0}
RecoveryKnowledge own held begun LoadDone = own.begun ≡ begun
RecoveryKnowledge own held begun (LoadLock pending) = (own.begun ≡ begun) × (0 < begun) × (is_pending own ≡ pending)
RecoveryKnowledge own held begun (LoadPath pending lock levels) =
    (own.begun ≡ begun) × (0 < begun) × (is_pending own ≡ pending) × (current_lock own ≡ lock) × (levels ≤ held lock)

abbrev pub DepartureKnowledge : Shape → WorkerWords → (ℕ → ℕ) → (ℕ → LockWords) → ℕ → Departure → Type 0
DepartureKnowledge shape own held locks begun (LoadExitTurn lock) = IsDoneAt own held begun lock shape.height
DepartureKnowledge shape own held locks begun (StoreExitTurn lock turn) =
    IsDoneAt own held begun lock shape.height × ((locks lock).turn ≡ turn) × (turn % 2 ≡ 1)
DepartureKnowledge shape own held locks begun (Clear lock level) =
    IsDoneAt own held begun lock level × (level ≡ shape.height → (locks lock).turn % 2 ≡ 0)
DepartureKnowledge shape own held locks begun (WithdrawPlace lock levels) = IsPendingAt own held begun lock levels
DepartureKnowledge shape own held locks begun (WithdrawAt lock levels) =
    IsPendingAt own held begun lock levels × (own.place ≡ withdrawn_place)
DepartureKnowledge shape own held locks begun (WithdrawReply lock levels) =
    IsPendingAt own held begun lock levels × (own.place ≡ withdrawn_place) × (own.at ≡ lock)
DepartureKnowledge shape own held locks begun (WithdrawDone lock levels) =
    IsPendingAt own held begun lock levels × (own.place ≡ withdrawn_place) × (own.at ≡ lock) × (own.reply ≡ 0)

-- What a worker knows at each stage: `held` is the number of levels that it holds in each lock, and `locks` are the
-- words of each lock.
abbrev pub StageKnowledge : Shape → WorkerWords → (ℕ → ℕ) → (ℕ → LockWords) → ℕ → Stage → Type 0
StageKnowledge shape own held locks begun Resting = IsIdleWorker shape own held begun
StageKnowledge shape own held locks begun (Recovering recovery) = RecoveryKnowledge own held begun recovery
StageKnowledge shape own held locks begun (Posting slate) = IsIdleWorker shape own held begun × SlateIsStored own slate
StageKnowledge shape own held locks begun (Climbing ascent) = IsPendingAt own held begun ascent.lock ascent.held
StageKnowledge shape own held locks begun (Logging log) =
    IsPendingAt own held begun (log_lock log) shape.height × LogKnowledge shape own (locks (log_lock log)) log
StageKnowledge shape own held locks begun (Copying redo) =
    IsPendingAt own held begun (redo_lock redo) shape.height × RedoKnowledge shape own (locks (redo_lock redo)) redo
StageKnowledge shape own held locks begun (Leaving departure) = DepartureKnowledge shape own held locks begun departure

-- The private invariant: the private state is its worker's and of the shape, and its knowledge is true.
pub record PrivateInvariant (shape : Shape) (own : WorkerWords) (held : ℕ → ℕ) (locks : ℕ → LockWords) (worker : ℕ)
    (private : Private) : Type 0 where
  pub is : private.worker ≡ worker
  pub shaped : IsPrivate shape private
  pub knows : StageKnowledge shape own held locks private.begun private.stage
