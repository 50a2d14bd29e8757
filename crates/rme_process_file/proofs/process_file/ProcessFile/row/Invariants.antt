use Rattle.std.proofs.Common.{◌≡◌, length, take}
use Rattle.rme_process_file.specs.FileContents.{cells_in}
use Rattle.rme_process_file.proofs.process_file.ProcessFile.row.Given as goal

abbrev pub invariant-loop-cell : goal.invariant-loop-cell
invariant-loop-cell l = (length l.row ≡ l.cell-end) × (take l.cell l.row ≡ take l.cell (cells_in l.self l.lock))
