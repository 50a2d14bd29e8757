use Rattle.std.proofs.Common.{◌-◌}
use Rattle.rme_process_core.proofs.Led.{ReadsCells}
use Rattle.rme_process_core.proofs.fast_forwarding.read_cells.Given as goal

abbrev pub invariant-loop-cell : goal.invariant-loop-cell
invariant-loop-cell l = ReadsCells l.shape l.named l.from l.fn.row l.values l.count l.row

abbrev pub decreases-loop-cell : goal.decreases-loop-cell
decreases-loop-cell l = l.shape.cells - l.from
