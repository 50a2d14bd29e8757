-- The number of steps of its row that a worker has made, at the stages that determine it.
use Rattle.std.specs.Prelude.{ℕ, ◌+◌, ◌*◌, length}
use Rattle.rme_words.specs.declared.shape.Shape.{Shape}
use Rattle.rme_script.specs.Cells.{cells_of_ops}
use Rattle.rme_script.specs.Programs.{Program}
use Rattle.rme_program.specs.declared.stage.Recovery.{Recovery}
use Rattle.rme_program.specs.declared.stage.Recovery.TheVariants.{LoadBegun, LoadDone, LoadLock, LoadPath}
use Rattle.rme_program.specs.declared.stage.Log.{Log}
use Rattle.rme_program.specs.declared.stage.Log.TheVariants.{LoadTurn, LoadLen, LoadSlate, LoadCells, StoreShadows, StoreShadowReply, StoreMask, StoreTurn}
use Rattle.rme_program.specs.declared.stage.Redo.{Redo}
use Rattle.rme_program.specs.declared.stage.Redo.TheVariants.{LoadMask, LoadShadow, StoreCell, LoadReply, StoreReply, StorePlace, StoreAt, StoreDone}
use Rattle.rme_program.specs.declared.stage.Parity.{Parity}
use Rattle.rme_program.specs.declared.stage.Parity.TheVariants.{Even, Odd}
use Rattle.rme_program.specs.Phases.{mask_cells_below}

abbrev pub steps_made_in_recovery : Recovery → ℕ
steps_made_in_recovery LoadBegun = 0
steps_made_in_recovery LoadDone = 1
steps_made_in_recovery (LoadLock pending) = 2
steps_made_in_recovery (LoadPath pending lock held) = 3 + held

-- The steps before the shadow words are stored: the turn, the length, 3n words of the slate and t named cells.
abbrev pub load_steps : Shape → Parity → ℕ
load_steps shape (Even operations cells) = 2 + 3 * operations + mask_cells_below cells shape.cells
load_steps shape Odd = 0

-- The shadow words are stored after those steps.
abbrev pub load_and_shadow_steps : Shape → Parity → ℕ
load_and_shadow_steps shape (Even operations cells) =
    load_steps shape (Even operations cells) + mask_cells_below cells shape.cells
load_and_shadow_steps shape Odd = 0

abbrev pub steps_made_in_log : Shape → Log → ℕ
steps_made_in_log shape (LoadTurn lock) = 0
steps_made_in_log shape (LoadLen lock turn) = 1
steps_made_in_log shape (LoadSlate lock turn operations words loaded) = 2 + loaded
steps_made_in_log shape (LoadCells lock turn script named row cell) = 2 + 3 * script.n + mask_cells_below named cell
steps_made_in_log shape (StoreShadows visit named row reply cell) =
    load_steps shape visit.parity + mask_cells_below named cell
steps_made_in_log shape (StoreShadowReply visit named reply) = load_and_shadow_steps shape visit.parity
steps_made_in_log shape (StoreMask visit named) = load_and_shadow_steps shape visit.parity + 1
steps_made_in_log shape (StoreTurn visit) = load_and_shadow_steps shape visit.parity + 2

-- The steps before the load of the mask: 5 + 3n + 2t of a section begun at an even turn, otherwise the load of the
-- turn.
abbrev pub steps_before_redo : Shape → Parity → ℕ
steps_before_redo shape (Even operations cells) = load_and_shadow_steps shape (Even operations cells) + 3
steps_before_redo shape Odd = 1

abbrev pub steps_made_in_redo : Shape → Redo → ℕ
steps_made_in_redo shape (LoadMask visit) = steps_before_redo shape visit.parity
steps_made_in_redo shape (LoadShadow visit mask cell) =
    steps_before_redo shape visit.parity + (1 + 2 * mask_cells_below mask cell)
steps_made_in_redo shape (StoreCell visit mask cell value) =
    steps_before_redo shape visit.parity + (2 + 2 * mask_cells_below mask cell)
steps_made_in_redo shape (LoadReply visit mask) =
    steps_before_redo shape visit.parity + (1 + 2 * mask_cells_below mask shape.cells)
steps_made_in_redo shape (StoreReply visit mask reply) =
    steps_before_redo shape visit.parity + (2 + 2 * mask_cells_below mask shape.cells)
steps_made_in_redo shape (StorePlace visit mask reply) =
    steps_before_redo shape visit.parity + (3 + 2 * mask_cells_below mask shape.cells)
steps_made_in_redo shape (StoreAt visit mask reply) =
    steps_before_redo shape visit.parity + (4 + 2 * mask_cells_below mask shape.cells)
steps_made_in_redo shape (StoreDone visit mask reply) =
    steps_before_redo shape visit.parity + (5 + 2 * mask_cells_below mask shape.cells)

-- The steps of a whole section: begun at an even turn 11 + 3n + 4t, for a script of n operations that name t cells;
-- redone from an odd turn 7 + 2m, for m cells of the mask.
abbrev pub section_steps : Shape → Program → ℕ → Parity → ℕ
section_steps shape script mask (Even operations cells) =
    11 + 3 * script.n + 4 * length (cells_of_ops script.ops shape.cells)
section_steps shape script mask Odd = 7 + 2 * mask_cells_below mask shape.cells
