use Rattle.std.proofs.Common.{◌-◌}
use Rattle.rme_process_core.proofs.Led.{FindsCopies}
use Rattle.rme_process_core.proofs.fast_forwarding.find_copies.Given as goal

abbrev pub invariant-loop-cell : goal.invariant-loop-cell
invariant-loop-cell l = FindsCopies l.shape l.named l.from l.values l.count

abbrev pub decreases-loop-cell : goal.decreases-loop-cell
decreases-loop-cell l = l.shape.cells - l.from
