use Rattle.std.proofs.Common.{ap, subst, sym, ◌∙◌}
use Rattle.std.specs.Prelude.{Some}
use Rattle.rme_session_protocol.specs.declared.reply.FencingToken.{FencingToken}
use Rattle.rme_session_protocol.specs.declared.reply.JobOutcome.TheVariants as outcome
use Rattle.rme_session_protocol.specs.declared.reply.SessionReply.TheVariants.{Entered}
use Rattle.rme_session_world.specs.AppliedOrders.{AppliesOrder}
use Rattle.rme_session_world.specs.Replies.{order_for, unchanged_order}
use Rattle.rme_session_world.specs.declared.orders.SubmitAim.{SubmitAim}
use Rattle.rme_session_world.specs.declared.orders.SubmitAim.TheVariants.{Receipt, Inside}
use Rattle.rme_session_world.specs.declared.orders.AppliedOrder.{AppliedOrder}
use Rattle.rme_session_world.proofs.Handing.{held_again, held_submitted}
use Rattle.rme_session_world.proofs.orders.continue_inside.Goals as goal

pub returns-in-Inside : goal.returns-in-Inside
returns-in-Inside c its may =
    let A = λ (aim : SubmitAim). AppliesOrder c.args.world.now (Some c.args.worker) c.args.planned (order_for aim its) c.unchanged_order.result c.args.world.now in
    let P = λ (carried : AppliedOrder). AppliesOrder c.args.world.now (Some c.args.worker) c.args.planned (order_for Inside its) carried c.args.world.now in
    let answer = ap (λ (token : FencingToken). unchanged_order c.args.worker c.args.planned (Entered (outcome.Inside token))) c.fencing_token-token.ensures.token in
    subst A (sym c.in-Inside.is)
    (subst P (sym (c.unchanged_order.ensures ∙ answer))
    (held_again c.args.world.now c.args.worker c.args.planned c.args.pending.now its c.fencing_token-token.ensures.kept c.requires.rests c.requires.session may))

pub returns-in-Receipt : goal.returns-in-Receipt
returns-in-Receipt c its may =
    let A = λ (aim : SubmitAim). AppliesOrder c.args.world.now (Some c.args.worker) c.args.planned (order_for aim its) c.worked_order.result c.continue_job-worked.new.world in
    let P = λ (carried : AppliedOrder). AppliesOrder c.args.world.now (Some c.args.worker) c.args.planned (order_for Receipt its) carried c.continue_job-worked.new.world in
    subst A (sym c.in-Receipt.is)
    (subst P (sym c.worked_order.ensures) (held_submitted c.args.world.now c.continue_job-worked.new.world c.args.worker c.args.planned c.args.pending.now c.continue_job-worked.result c.requires.rests c.requires.session its may c.continue_job-worked.ensures.went))
