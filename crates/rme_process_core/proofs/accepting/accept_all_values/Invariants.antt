use Rattle.std.proofs.Common.{◌-◌, length}
use Rattle.rme_process_core.proofs.Folding.{HasTaken}
use Rattle.rme_process_core.proofs.accepting.accept_all_values.Given as goal

abbrev pub invariant-loop-at : goal.invariant-loop-at
invariant-loop-at l = HasTaken l.shape l.fn.private l.private l.outcome l.values l.at

abbrev pub decreases-loop-at : goal.decreases-loop-at
decreases-loop-at l = length l.values - l.at
