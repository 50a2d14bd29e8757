use Rattle.std.proofs.Common.{sym, ◌∙◌, ap}
use Rattle.std.specs.Prelude.{not}
use Rattle.rme_world.proofs.Looking.{free_settled, owned_settled}
use Rattle.rme_world.proofs.world.World.settled.Goals as goal

pub returns-in-None : goal.returns-in-None
returns-in-None c = rw (← c.self.view_is) (sym (free_settled _ c.args.lock c.self.invariant (rw (← c.self.view_is) at c.requires) (sym c.in-None.ensures.owner)))

pub returns-in-Some : goal.returns-in-Some
returns-in-Some c =
    rw (← c.self.view_is) (ap not c.is_pending.ensures ∙ sym (owned_settled _ c.args.lock c.in-Some.worker c.self.invariant (rw (← c.self.view_is) at c.requires) (sym c.in-Some.ensures.owner)))
