use Rattle.std.proofs.Common.{◌-◌}
use Rattle.rme_process_core.proofs.Finishing.{TellsShadows}
use Rattle.rme_process_core.proofs.stores.predict_shadow_stores.Given as goal

abbrev pub invariant-loop-next : goal.invariant-loop-next
invariant-loop-next l = TellsShadows l.fn.context.shape l.fn.context.until l.section.visit l.section.named l.section.row l.cell l.at l.fn.batch l.batch

abbrev pub decreases-loop-next : goal.decreases-loop-next
decreases-loop-next l = l.fn.context.shape.cells - l.at
