use Rattle.rme_table.proofs.Holding.{seen_holds}
use Rattle.rme_table.proofs.kinds.Ready.worker.Goals as goal

pub returns-clause-holds_none : goal.returns-clause-holds_none
returns-clause-holds_none c = seen_holds _ c.self.view_is c.self.invariant
