use Rattle.rme_program.specs.declared.action.Action.TheVariants.{Swap}
use Rattle.rme_service_steps.proofs.Seats.{at_table, may_go, now_seated}
use Rattle.rme_service_steps.proofs.seat.WorkerSeat.swap.Goals as goal

pub compare_exchange-found-requires : goal.compare_exchange-found-requires
compare_exchange-found-requires g c =
    let table = at_table c.self.invariant c.self.view_is c.service.view_is c.requires.ours c.service.invariant in
    may_go _ _ _ _ _ _ _ table _ g.X.LocalChange.lead (Swap c.requires.may.0 c.args.words.from c.args.words.to) c.args.at c.requires.may.1.may

pub invariant_of-self : goal.invariant_of-self
invariant_of-self g c =
    let table = at_table c.self.invariant c.self.view_is c.service.view_is c.requires.ours c.service.invariant in
    now_seated _ _ _ _ _ _ _ table _ _ _ _ c.self.invariant g.X.LocalChange.lead (Swap c.requires.may.0 c.args.words.from c.args.words.to) c.args.at _ _ c.compare_exchange-found.ensures.2 c.requires.may.1
