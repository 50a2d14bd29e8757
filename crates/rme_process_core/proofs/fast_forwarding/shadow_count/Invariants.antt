use Rattle.std.proofs.Common.{◌-◌}
use Rattle.rme_process_core.proofs.Led.{CountsShadows}
use Rattle.rme_process_core.proofs.fast_forwarding.shadow_count.Given as goal

abbrev pub invariant-loop-next : goal.invariant-loop-next
invariant-loop-next l = CountsShadows l.shape l.named l.cell l.at l.count

abbrev pub decreases-loop-next : goal.decreases-loop-next
decreases-loop-next l = l.shape.cells - l.at
