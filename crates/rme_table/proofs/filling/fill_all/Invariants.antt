use Rattle.rme_table.proofs.Filled.{PartFilled}
use Rattle.rme_table.proofs.filling.fill_all.Given as goal

abbrev pub invariant-loop-lock : goal.invariant-loop-lock
invariant-loop-lock l = PartFilled l.bank l.entries l.lock l.locks.items
