use Rattle.std.proofs.Common.{refl}
use Rattle.rme_table.proofs.Owners.{performed}
use Rattle.rme_table.proofs.kinds.Held.perform.Goals as goal

pub returns : goal.returns
returns g c = performed _ c.args.self c.self.inside.seat _ _ _ _ _ _ _ c.self.view_is c.self.invariant c.if-not-self.false _ _ c.service.view_is refl c.in-Ok.ensures
