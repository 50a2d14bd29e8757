use Rattle.rme_table.proofs.Counts.{PartCounted}
use Rattle.rme_table.proofs.counting.count_locks.Given as goal

abbrev pub invariant-loop-lock : goal.invariant-loop-lock
invariant-loop-lock l = PartCounted l.bank l.lock l.locks.items
