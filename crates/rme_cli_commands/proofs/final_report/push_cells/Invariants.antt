use Rattle.std.proofs.Common.{string_bytes}
use Rattle.rme_cli_commands.proofs.InOrder.{CellsSoFar}
use Rattle.rme_cli_commands.proofs.final_report.push_cells.Given as goal

abbrev pub invariant-loop-cell : goal.invariant-loop-cell
invariant-loop-cell l = CellsSoFar (string_bytes l.fn.out) l.cells (string_bytes l.out) l.cell-index
