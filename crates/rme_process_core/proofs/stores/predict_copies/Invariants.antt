use Rattle.std.proofs.Common.{◌-◌}
use Rattle.rme_process_core.proofs.Finishing.{TellsCopies}
use Rattle.rme_process_core.proofs.stores.predict_copies.Given as goal

abbrev pub invariant-loop-cell : goal.invariant-loop-cell
invariant-loop-cell l = TellsCopies l.fn.context.shape l.fn.context.until l.section.visit l.section.named l.from l.fn.batch l.batch

abbrev pub decreases-loop-cell : goal.decreases-loop-cell
decreases-loop-cell l = l.fn.context.shape.cells - l.from
