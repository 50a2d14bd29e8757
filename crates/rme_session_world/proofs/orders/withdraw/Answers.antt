use Rattle.std.proofs.Common.{ap, subst, sym, ◌∙◌}
use Rattle.std.specs.Prelude.{Some}
use Rattle.rme_program.specs.Steps.{withdrawing_private}
use Rattle.rme_session_protocol.specs.declared.order.Order.TheVariants as order
use Rattle.rme_session_world.specs.AppliedOrders.{AppliesOrder}
use Rattle.rme_session_world.specs.Replies.{worked_order, waiting_number, withdraw_reply}
use Rattle.rme_session_world.specs.declared.event_batch.BatchStart.TheVariants.{Withdraw}
use Rattle.rme_session_world.specs.declared.orders.AppliedOrder.{AppliedOrder}
use Rattle.rme_session_world.proofs.Handing.{withdrawn}
use Rattle.rme_session_world.proofs.Posting.{withdrawing_found}
use Rattle.rme_session_world.proofs.Sorting.{may_turn, waits_in}
use Rattle.rme_session_world.proofs.orders.withdraw.Goals as goal

pub begin_withdraw-requires : goal.begin_withdraw-requires
begin_withdraw-requires c =
    let waits = waits_in c.args.session.now c.requires.may in
    record { waits = may_turn c.args.world.now c.args.worker waits.0 c.recall_invariant.ensures c.requires.rests (sym waits.1 ∙ c.requires.session) }

pub continue_job-worked-requires : goal.continue_job-worked-requires
continue_job-worked-requires c =
    record { up = (withdrawing_private c.begin_withdraw.ensures.accepted.private, withdrawing_found c.args.world.now c.begin_withdraw.new.world c.args.worker c.begin_withdraw.ensures.accepted) }

pub returns : goal.returns
returns c =
    let waits = waits_in c.args.session.now c.requires.may in
    let answer = c.withdraw_reply.ensures ∙ ap (withdraw_reply c.continue_job-worked.result.falls) (c.waiting_number-number.ensures ∙ ap waiting_number waits.1) in
    let whole = c.worked_order.ensures ∙ ap (worked_order c.args.worker Withdraw c.continue_job-worked.result) answer in
    let P = λ (carried : AppliedOrder). AppliesOrder c.args.world.now (Some c.args.worker) c.args.planned order.Withdraw carried c.continue_job-worked.new.world in
    subst P (sym whole)
    (withdrawn c.args.world.now c.begin_withdraw.new.world c.continue_job-worked.new.world c.args.worker c.args.planned waits.0 c.continue_job-worked.result c.recall_invariant.ensures c.requires.rests (sym waits.1 ∙ c.requires.session) c.begin_withdraw.ensures
    c.continue_job-worked.ensures.went)
