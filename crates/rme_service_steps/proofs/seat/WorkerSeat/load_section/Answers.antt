use Rattle.std.proofs.Common.{refl, arith}
use Rattle.rme_service_steps.proofs.Seats.{at_table}
use Rattle.rme_service_steps.proofs.ReadingSeats.{may_read, read_keeps, read_view}
use Rattle.rme_service_steps.proofs.seat.WorkerSeat.load_section.Goals as goal

pub load-requires : goal.load-requires
load-requires c =
    let table = at_table c.self.invariant c.self.view_is c.service.view_is c.requires.ours c.service.invariant in
    may_read _ _ _ _ _ _ _ table _ c.args.at c.requires.inside

pub invariant_of-self : goal.invariant_of-self
invariant_of-self c =
    let table = at_table c.self.invariant c.self.view_is c.service.view_is c.requires.ours c.service.invariant in
    read_keeps _ _ _ _ _ _ _ table _ _ _ _ c.self.invariant _ _ c.load.ensures.2

pub returns-clause-known : goal.returns-clause-known
returns-clause-known c =
    let table = at_table c.self.invariant c.self.view_is c.service.view_is c.requires.ours c.service.invariant in
    read_view _ _ _ _ _ _ _ table _ _ _ _ c.self.invariant _ _ c.load.ensures.2 _ c.load.ensures.0

pub returns-clause-few : goal.returns-clause-few
returns-clause-few c = let few = c.load.ensures.2.2 in omega (arith, few)

pub returns-clause-stood : goal.returns-clause-stood
returns-clause-stood c =
    let table = at_table c.self.invariant c.self.view_is c.service.view_is c.requires.ours c.service.invariant in
    (read_keeps _ _ _ _ _ _ _ table _ _ _ _ c.self.invariant _ _ c.load.ensures.2).stood
