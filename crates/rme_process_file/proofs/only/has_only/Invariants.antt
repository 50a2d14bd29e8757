use Rattle.std.proofs.Common.{◌≡◌, ℕ, ◌<◌, true}
use Rattle.rme_script.specs.Cells.{mask_has_cell}
use Rattle.rme_process_file.proofs.only.has_only.Given as goal

abbrev pub invariant-loop-cell : goal.invariant-loop-cell
invariant-loop-cell l = (cell : ℕ) → cell < l.cell → mask_has_cell l.mask cell ≡ true → cell < l.cells
