use Rattle.std.proofs.Common.{ap, subst, sym, ◌∙◌}
use Rattle.std.specs.Prelude.{Some}
use Rattle.rme_session_world.specs.AppliedOrders.{AppliesOrder}
use Rattle.rme_session_world.specs.Replies.{worked_order, unchanged_order, order_for, reply_for}
use Rattle.rme_session_world.specs.JobRuns.{JobSubmission}
use Rattle.rme_session_world.specs.declared.event_batch.BatchStart.TheVariants.{Submit}
use Rattle.rme_session_world.specs.declared.orders.AppliedOrder.{AppliedOrder}
use Rattle.rme_session_world.specs.declared.running.RunGoal.{RunGoal}
use Rattle.rme_session_world.proofs.Handing.{handed, repeated}
use Rattle.rme_session_world.proofs.Sorting.{may_post}
use Rattle.rme_session_world.proofs.orders.submit_new.Goals as goal

pub returns-then-its-ready-clause-carries : goal.returns-then-its-ready-clause-carries
returns-then-its-ready-clause-carries c =
    let answer = c.reply.ensures ∙ ap (reply_for c.args.request.now.aim) c.last_outcome.ensures in
    let whole = c.unchanged_order.ensures ∙ ap (unchanged_order c.args.worker c.args.planned) answer in
    let P = λ (carried : AppliedOrder). AppliesOrder c.args.world.now (Some c.args.worker) c.args.planned (order_for c.args.request.now.aim c.args.request.now.submission.now) carried c.args.world.now in
    subst P (sym whole) (repeated c.args.world.now c.args.worker c.args.planned c.args.ready.now c.args.request.now.submission.now c.args.request.now.aim c.requires.rests c.requires.session c.requires.may c.if-its-ready.true)

pub submit_and_run-requires : goal.submit_and_run-requires
submit_and_run-requires c = record { may = may_post c.args.world.now c.args.worker c.args.ready.now c.args.request.now.submission.now c.recall_invariant.ensures c.requires.rests c.requires.session c.if-its-ready.false c.requires.may }

pub returns-in-Ok-clause-carries : goal.returns-in-Ok-clause-carries
returns-in-Ok-clause-carries c =
    let whole = c.worked_order.ensures ∙ ap (worked_order c.args.worker (Submit c.args.request.now.submission.now.job) c.in-Ok.worked) c.reply-in-Ok.ensures in
    let P = λ (carried : AppliedOrder). AppliesOrder c.args.world.now (Some c.args.worker) c.args.planned (order_for c.args.request.now.aim c.args.request.now.submission.now) carried c.submit_and_run.new.world in
    let G = λ (g : RunGoal). JobSubmission g c.args.worker (record { job = c.args.request.now.submission.now.job; planned = c.args.planned }) c.args.world.now c.in-Ok.worked c.submit_and_run.new.world in
    subst P (sym whole)
    (handed c.args.world.now c.submit_and_run.new.world c.args.worker c.args.planned c.args.ready.now c.args.request.now.submission.now c.args.request.now.aim c.in-Ok.worked c.requires.rests c.requires.session c.requires.may c.if-its-ready.false
    (subst G c.goal.ensures c.in-Ok.ensures.posts))
