use Rattle.std.proofs.Common.{subst, sym}
use Rattle.rme_service_steps.specs.SeatViews.{ServiceId}
use Rattle.rme_session_protocol.specs.declared.reply.JobOutcome.{JobOutcome}
use Rattle.rme_session_protocol.specs.declared.reply.SessionReply.TheVariants as reply
use Rattle.rme_session_protocol.specs.declared.order.Order.TheVariants as order
use Rattle.rme_session_threads.specs.ThreadSteps.{OrderLife, stand_change, ThreadOrderExecution}
use Rattle.rme_session_threads.specs.SessionWorks.{HasWorkTries, WorkWithinPlan, WorkEffect, work_holding, work_lead}
use Rattle.rme_session_threads.specs.JobOutcomes.{ThreadWaitsAfterTries, holding_steps}
use Rattle.rme_session_threads.specs.declared.stand.Holding.{Holding}
use Rattle.rme_session_threads.specs.declared.work.SessionWork.{SessionWork}
use Rattle.rme_session_threads.proofs.Living.{enters_life, enters_told}
use Rattle.rme_session_threads.proofs.Showing.{entered}
use Rattle.rme_session_threads.proofs.Working.{same_start, same_tries}
use Rattle.rme_session_threads.proofs.orders.enter.Goals as goal
use Rattle.rme_session_protocol.specs.Patience.{least_tries}

pub returns-clause-acts : goal.returns-clause-acts
returns-clause-acts g c =
    let its = c.args.submission.now in
    let shape = c.args.service.now.shape in
    let made = c.run_work-stand.result in
    let work = c.in-Ok.work in
    let M : SessionWork → Type 0 = λ w. WorkEffect shape w made.0.value made.1 in
    let L : SessionWork → Type 0 = λ w. WorkWithinPlan shape (work_lead w) (record { value = work_holding w; planned = c.args.stand.planned; life = c.args.stand.life }) made.0 made.1 made.2 in
    let T : SessionWork → Type 0 = λ w. HasWorkTries (least_tries its.patience) w → ThreadWaitsAfterTries (least_tries its.patience) (holding_steps (work_holding w)) made.0.value made.1 in
    let H : Holding → Type 0 = λ value. ThreadWaitsAfterTries (least_tries its.patience) (holding_steps value) made.0.value made.1 in
    let tried = subst H (same_start work) (subst T c.until_inside-work.ensures (c.run_work-stand.ensures.tried (least_tries its.patience)) (same_tries (least_tries its.patience) work c.in-Ok.ensures.tries)) in
    let P : ServiceId → Type 0 = λ ident. ThreadOrderExecution ident c.args.slots.now (stand_change c.args.stand made.0 made.2) (order.Enter its) (reply.Entered made.1) in
    let E : JobOutcome → Type 0 = λ became. ThreadOrderExecution g.K.Tag.ident c.args.slots.now (stand_change c.args.stand made.0 made.2) (order.Enter its) (reply.Entered became) in
    let acts = subst P c.requires.service (entered c.args.service.now c.args.slots.now work c.args.stand made.0 made.1 made.2 its c.in-Ok.ensures.work.0 c.in-Ok.ensures.work.1
    (subst M c.until_inside-work.ensures c.run_work-stand.ensures.did.0) (subst L c.until_inside-work.ensures c.run_work-stand.ensures.did.1) tried c.run_work-stand.ensures.told) in
    subst E (sym c.tell_life.ensures) (enters_told g.K.Tag.ident c.args.slots.now c.args.stand made.0 made.2 its c.args.stand.life made.1 acts)

pub returns-clause-life : goal.returns-clause-life
returns-clause-life g c =
    let made = c.run_work-stand.result in
    let O : JobOutcome → Type 0 = λ became. OrderLife (order.Enter c.args.submission.now) c.args.stand made.0 (reply.Entered became) in
    subst O (sym c.tell_life.ensures) (enters_life c.args.submission.now c.args.stand made.0 made.1 c.run_work-stand.ensures.life)
