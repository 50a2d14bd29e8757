use Rattle.rme_table.proofs.Owners.{climbs_there}
use Rattle.rme_table.proofs.kinds.Climb.ascent.Goals as goal

pub returns : goal.returns
returns c = climbs_there c.self.inside.seat c.args.self.now _ _ _ c.self.view_is c.self.invariant
