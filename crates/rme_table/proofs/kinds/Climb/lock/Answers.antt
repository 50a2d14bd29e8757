use Rattle.rme_table.proofs.Owners.{waits_for}
use Rattle.rme_table.proofs.kinds.Climb.lock.Goals as goal

pub returns : goal.returns
returns c = waits_for c.self.inside.seat c.args.self.now _ _ _ c.self.view_is c.self.invariant
