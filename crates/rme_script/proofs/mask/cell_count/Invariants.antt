use Rattle.std.proofs.Common.{◌≡◌, ◌+◌, ◌≤◌, length}
use Rattle.rme_script.specs.Cells.{mask_cells, mask_cells_from}
use Rattle.rme_script.proofs.mask.cell_count.Given as goal

abbrev pub invariant-loop-c : goal.invariant-loop-c
invariant-loop-c l = record {
  counted : l.count + length (mask_cells_from l.mask l.c l.cells) ≡ length (mask_cells l.mask l.cells);
  most : l.count ≤ l.c;
}
