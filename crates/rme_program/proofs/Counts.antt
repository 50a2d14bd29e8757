-- The number of cells of a mask below a bound.
use Rattle.std.proofs.Common.{◌≡◌, ℕ, ◌+◌, ◌≤◌, length, ap, ◌∙◌, arith, length-append}
use Rattle.rme_script.specs.Cells.{mask_cells, mask_cells_from}
use Rattle.rme_script.proofs.Rising.{cells_named_split}
use Rattle.rme_program.specs.Phases.{mask_cells_below}

-- The cells below a bound are those below an earlier bound, and those from there on.
pub cells_below-split : (mask from cells : ℕ) → from ≤ cells → mask_cells_below mask cells ≡ mask_cells_below mask from + length (mask_cells_from mask from cells)
cells_below-split mask from cells le = ap length (cells_named_split mask from cells le) ∙ length-append (mask_cells mask from) (mask_cells_from mask from cells)

pub cells_below_less : (mask from cells : ℕ) → from ≤ cells → mask_cells_below mask from ≤ mask_cells_below mask cells
cells_below_less mask from cells le = omega (arith, cells_below-split mask from cells le)
