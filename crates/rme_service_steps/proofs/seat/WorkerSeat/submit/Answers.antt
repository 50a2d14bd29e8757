use Rattle.rme_program.specs.declared.action.Action.TheVariants.{Store}
use Rattle.rme_service_steps.specs.Parts.{submitted_part}
use Rattle.rme_service_steps.proofs.Seats.{at_table, may_go, now_submitted}
use Rattle.rme_service_steps.proofs.seat.WorkerSeat.submit.Goals as goal

pub store-requires : goal.store-requires
store-requires g c =
    let table = at_table c.self.invariant c.self.view_is c.service.view_is c.requires.ours c.service.invariant in
    may_go _ _ _ _ _ _ _ table _ (submitted_part g.J.JobTag.job) (Store c.requires.may.0 c.args.lock) c.args.at c.requires.may.1

pub invariant_of-self : goal.invariant_of-self
invariant_of-self g c =
    let table = at_table c.self.invariant c.self.view_is c.service.view_is c.requires.ours c.service.invariant in
    now_submitted _ _ _ _ _ _ _ table _ _ _ _ c.self.invariant g.J.JobTag.job _ _ c.store.ensures.2
