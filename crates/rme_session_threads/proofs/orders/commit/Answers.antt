use Rattle.std.proofs.Common.{subst, sym}
use Rattle.rme_service_steps.specs.SeatViews.{ServiceId}
use Rattle.rme_session_protocol.specs.declared.reply.SessionReply.TheVariants as reply
use Rattle.rme_session_protocol.specs.declared.order.Order.TheVariants as order
use Rattle.rme_session_threads.specs.ThreadSteps.{stand_change, ThreadOrderExecution}
use Rattle.rme_session_threads.specs.declared.stand.Holding.{Holding}
use Rattle.rme_session_threads.proofs.Showing.{committed}
use Rattle.rme_session_threads.proofs.orders.commit.Goals as goal

pub returns-clause-acts : goal.returns-clause-acts
returns-clause-acts g c =
    let made = c.run_work-stand.result in
    let P : ServiceId → Type 0 = λ ident. ThreadOrderExecution ident c.args.slots.now (stand_change c.args.stand made.0 made.2) order.Commit (reply.Committed made.1) in
    let Q : Holding → Type 0 = λ value. ThreadOrderExecution c.args.service.now c.args.slots.now (stand_change (record { value = value; planned = c.args.stand.planned; life = c.args.stand.life }) made.0 made.2) order.Commit (reply.Committed made.1) in
    subst P c.requires.service (subst Q (sym c.in-Ok.ensures.inside) (committed c.args.service.now c.args.slots.now c.in-Ok.held c.args.stand.planned c.args.stand.life made.0 made.1 made.2 c.run_work-stand.ensures.did.0
    c.run_work-stand.ensures.did.1 (λ most. c.run_work-stand.ensures.tried most tt) c.run_work-stand.ensures.place))
