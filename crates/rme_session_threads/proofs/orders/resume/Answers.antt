use Rattle.std.proofs.Common.{subst}
use Rattle.rme_service_steps.specs.SeatViews.{ServiceId}
use Rattle.rme_session_protocol.specs.declared.reply.SessionReply.TheVariants as reply
use Rattle.rme_session_protocol.specs.declared.order.Order.TheVariants as order
use Rattle.rme_session_threads.specs.ThreadSteps.{stand_change, ThreadOrderExecution}
use Rattle.rme_session_threads.proofs.Showing.{resumed}
use Rattle.rme_session_threads.proofs.orders.resume.Goals as goal
use Rattle.rme_session_protocol.specs.Patience.{least_tries}

pub returns-clause-acts : goal.returns-clause-acts
returns-clause-acts g c =
    let made = c.run_work-stand.result in
    let P : ServiceId → Type 0 = λ ident. ThreadOrderExecution ident c.args.slots.now (stand_change c.args.stand made.0 made.2) (order.Resume c.args.patience) (reply.Resumed made.1) in
    subst P c.requires.service (resumed c.args.service.now c.args.slots.now c.in-Ok.work c.args.stand made.0 made.1 made.2 c.in-Ok.ensures.work.0 c.run_work-stand.ensures.did.0
    c.run_work-stand.ensures.place c.run_work-stand.ensures.did.1 c.args.patience c.in-Ok.ensures.work.1 (c.run_work-stand.ensures.tried (least_tries c.args.patience) c.in-Ok.ensures.tries))
