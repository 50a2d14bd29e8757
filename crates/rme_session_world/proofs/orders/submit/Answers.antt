use Rattle.std.proofs.Common.{ap, subst, sym, ◌∙◌}
use Rattle.std.specs.Prelude.{None, Some}
use Rattle.rme_session_protocol.specs.Refusals.{OrderRefusal}
use Rattle.rme_session_protocol.specs.declared.view.Session.{Session}
use Rattle.rme_session_world.specs.AppliedOrders.{AppliesOrder}
use Rattle.rme_session_world.specs.Replies.{worked_order, order_for}
use Rattle.rme_session_world.specs.JobRuns.{JobContinuation}
use Rattle.rme_session_world.specs.declared.event_batch.BatchStart.TheVariants.{GoOn}
use Rattle.rme_session_world.specs.declared.orders.AppliedOrder.{AppliedOrder}
use Rattle.rme_session_world.specs.declared.running.RunGoal.{RunGoal}
use Rattle.rme_session_world.proofs.Handing.{climbed}
use Rattle.rme_session_world.proofs.Sorting.{climb_may, held_may}
use Rattle.rme_session_world.proofs.orders.submit.Goals as goal

pub returns-in-Held-clause-carries : goal.returns-in-Held-clause-carries
returns-in-Held-clause-carries c =
    c.continue_inside.ensures c.args.request.now.submission.now (held_may c.args.world.now.shape c.args.request.now.aim c.args.request.now.submission.now c.in-Held.pending
    (subst (λ (s : Session). OrderRefusal c.args.world.now.shape s (order_for c.args.request.now.aim c.args.request.now.submission.now) None) c.in-Held.is c.requires.may))

pub returns-in-Climb-clause-carries : goal.returns-in-Climb-clause-carries
returns-in-Climb-clause-carries c =
    let may = climb_may c.args.world.now.shape c.args.request.now.aim c.args.request.now.submission.now c.in-Climb.field-0
    (subst (λ (s : Session). OrderRefusal c.args.world.now.shape s (order_for c.args.request.now.aim c.args.request.now.submission.now) None) c.in-Climb.is c.requires.may) in
    let whole = c.worked_order.ensures ∙ ap (worked_order c.args.worker GoOn c.continue_job-worked.result) c.reply-reply.ensures in
    let P = λ (carried : AppliedOrder). AppliesOrder c.args.world.now (Some c.args.worker) c.args.planned (order_for c.args.request.now.aim c.args.request.now.submission.now) carried c.continue_job-worked.new.world in
    let G = λ (g : RunGoal). JobContinuation g c.args.worker c.args.planned c.args.world.now c.continue_job-worked.result c.continue_job-worked.new.world in
    subst P (sym whole)
    (climbed c.args.world.now c.continue_job-worked.new.world c.args.worker c.args.planned c.in-Climb.field-0 c.continue_job-worked.result c.requires.rests (sym c.in-Climb.is ∙ c.requires.session) c.args.request.now.submission.now c.args.request.now.aim may
    (subst G c.goal.ensures c.continue_job-worked.ensures.went))
