-- The phase of each stage, and an upper bound for the own steps left in it.
use Rattle.std.specs.Prelude.{ℕ, ◌+◌, ◌-◌, ◌*◌, length}
use Rattle.rme_words.specs.declared.shape.Shape.{Shape}
use Rattle.rme_script.specs.Cells.{mask_cells}
use Rattle.rme_program.specs.declared.kinds.Phase.{Phase}
use Rattle.rme_program.specs.declared.kinds.Phase.TheVariants.{Recover, Post, Enter, Section, Exit, Ready}
use Rattle.rme_program.specs.declared.stage.Stage.{Stage}
use Rattle.rme_program.specs.declared.stage.Stage.TheVariants.{Resting, Recovering, Posting, Climbing, Logging, Copying, Leaving}
use Rattle.rme_program.specs.declared.stage.Recovery.{Recovery}
use Rattle.rme_program.specs.declared.stage.Recovery.TheVariants.{LoadBegun, LoadDone, LoadLock, LoadPath}
use Rattle.rme_program.specs.declared.stage.Log.{Log}
use Rattle.rme_program.specs.declared.stage.Log.TheVariants.{LoadTurn, LoadLen, LoadSlate, LoadCells, StoreShadows, StoreShadowReply, StoreMask, StoreTurn}
use Rattle.rme_program.specs.declared.stage.Redo.{Redo}
use Rattle.rme_program.specs.declared.stage.Redo.TheVariants.{LoadMask, LoadShadow, StoreCell, LoadReply, StoreReply, StorePlace, StoreAt, StoreDone}
use Rattle.rme_program.specs.declared.stage.Departure.{Departure}
use Rattle.rme_program.specs.declared.stage.Departure.TheVariants.{LoadExitTurn, StoreExitTurn, Clear, WithdrawPlace, WithdrawAt, WithdrawReply, WithdrawDone}

abbrev pub phase_of : Stage → Phase
phase_of Resting = Ready
phase_of (Recovering recovery) = Recover
phase_of (Posting slate) = Post
phase_of (Climbing ascent) = Enter
phase_of (Logging log) = Section
phase_of (Copying redo) = Section
phase_of (Leaving departure) = Exit

-- The number of cells of a mask below a bound.
abbrev pub mask_cells_below : ℕ → ℕ → ℕ
mask_cells_below mask cells = length (mask_cells mask cells)

abbrev pub recovery_steps_left : Shape → Recovery → ℕ
recovery_steps_left shape LoadBegun = shape.height + 3
recovery_steps_left shape LoadDone = shape.height + 3 - 1
recovery_steps_left shape (LoadLock pending) = shape.height + 3 - 2
recovery_steps_left shape (LoadPath pending lock held) = shape.height + 3 - (3 + held)

-- An even section takes 11 + 3n + 2t steps and two for each cell that the mask may have: n operations (8 until n is
-- loaded) and t named cells (all cells until the operations are loaded).
abbrev pub even_steps : Shape → ℕ → ℕ → ℕ
even_steps shape operations named = 11 + 3 * operations + 2 * named + 2 * shape.cells

abbrev pub log_steps_left : Shape → Log → ℕ
log_steps_left shape (LoadTurn lock) = even_steps shape 8 shape.cells
log_steps_left shape (LoadLen lock turn) = even_steps shape 8 shape.cells - 1
log_steps_left shape (LoadSlate lock turn operations words loaded) =
    even_steps shape operations shape.cells - (2 + loaded)
log_steps_left shape (LoadCells lock turn script named row cell) =
    even_steps shape script.n (mask_cells_below named shape.cells) - (2 + 3 * script.n + mask_cells_below named cell)
log_steps_left shape (StoreShadows visit named row reply cell) =
    even_steps shape 0 (mask_cells_below named shape.cells) -
    (2 + mask_cells_below named shape.cells + mask_cells_below named cell)
log_steps_left shape (StoreShadowReply visit named reply) = even_steps shape 0 0 - 2
log_steps_left shape (StoreMask visit named) = even_steps shape 0 0 - 3
log_steps_left shape (StoreTurn visit) = even_steps shape 0 0 - 4

-- From the load of the mask on, a section takes the rest of 7 + 2m steps, with m cells of the mask.
abbrev pub odd_steps : ℕ → ℕ → ℕ
odd_steps mask cells = 7 + 2 * mask_cells_below mask cells

abbrev pub redo_steps_left : Shape → Redo → ℕ
redo_steps_left shape (LoadMask visit) = 6 + 2 * shape.cells
redo_steps_left shape (LoadShadow visit mask cell) = odd_steps mask shape.cells - (2 + 2 * mask_cells_below mask cell)
redo_steps_left shape (StoreCell visit mask cell value) =
    odd_steps mask shape.cells - (3 + 2 * mask_cells_below mask cell)
redo_steps_left shape (LoadReply visit mask) = 5
redo_steps_left shape (StoreReply visit mask reply) = 4
redo_steps_left shape (StorePlace visit mask reply) = 3
redo_steps_left shape (StoreAt visit mask reply) = 2
redo_steps_left shape (StoreDone visit mask reply) = 1

abbrev pub departure_steps_left : Shape → Departure → ℕ
departure_steps_left shape (LoadExitTurn lock) = shape.height + 2
departure_steps_left shape (StoreExitTurn lock turn) = shape.height + 1
departure_steps_left shape (Clear lock level) = level
departure_steps_left shape (WithdrawPlace lock held) = 4 + held
departure_steps_left shape (WithdrawAt lock held) = 4 + held - 1
departure_steps_left shape (WithdrawReply lock held) = 4 + held - 2
departure_steps_left shape (WithdrawDone lock held) = 4 + held - 3

-- An upper bound for the own steps left in the phase, without blocked ones.
abbrev pub steps_left : Shape → Stage → ℕ
steps_left shape Resting = 0
steps_left shape (Recovering recovery) = recovery_steps_left shape recovery
steps_left shape (Posting slate) = 3 + 3 * slate.job.script.n - slate.stored
steps_left shape (Climbing ascent) = shape.height - ascent.held
steps_left shape (Logging log) = log_steps_left shape log
steps_left shape (Copying redo) = redo_steps_left shape redo
steps_left shape (Leaving departure) = departure_steps_left shape departure
