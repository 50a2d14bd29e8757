use Rattle.rme_table.proofs.Owners.{held_owns}
use Rattle.rme_table.proofs.kinds.Held.lock.Goals as goal

pub returns : goal.returns
returns c = held_owns c.self.inside.seat c.args.self.now _ _ _ c.self.view_is c.self.invariant
