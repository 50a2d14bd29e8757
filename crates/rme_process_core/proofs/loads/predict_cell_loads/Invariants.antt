use Rattle.std.proofs.Common.{◌-◌}
use Rattle.rme_process_core.proofs.Loading.{TellsCells}
use Rattle.rme_process_core.proofs.loads.predict_cell_loads.Given as goal

abbrev pub invariant-loop-next : goal.invariant-loop-next
invariant-loop-next l = TellsCells l.fn.context.shape l.fn.context.until l.lock l.named l.cell l.at l.fn.batch l.batch

abbrev pub decreases-loop-next : goal.decreases-loop-next
decreases-loop-next l = l.fn.context.shape.cells - l.at
