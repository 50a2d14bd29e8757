use Rattle.std.proofs.Common.{◌≡◌, ℕ, ◌<◌, ◌≤◌, false}
use Rattle.rme_script.specs.Cells.{mask_has_cell, mask_cells_from}
use Rattle.rme_script.proofs.mask.next_cell.Given as goal

abbrev pub invariant-loop-c : goal.invariant-loop-c
invariant-loop-c l = record {
  rest : mask_cells_from l.mask l.c l.cells ≡ mask_cells_from l.mask l.fn.from l.cells;
  none : (k : ℕ) → l.fn.from ≤ k → k < l.c → mask_has_cell l.mask k ≡ false;
}
