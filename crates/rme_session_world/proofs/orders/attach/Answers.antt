use Rattle.std.proofs.Common.{ap, subst, sym, ◌∙◌}
use Rattle.std.specs.Prelude.{None, Some, false}
use Rattle.rme_program.specs.Steps.{restarted_private}
use Rattle.rme_session_protocol.specs.declared.planned_crash.PlannedCrash.TheVariants.{Nothing}
use Rattle.rme_session_protocol.specs.declared.order.Order.TheVariants.{Attach}
use Rattle.rme_session_protocol.specs.declared.reply.SessionReply.{SessionReply}
use Rattle.rme_session_world.specs.AppliedOrders.{AppliesOrder}
use Rattle.rme_session_world.specs.Replies.{attach_reply}
use Rattle.rme_session_world.specs.declared.event_batch.BatchStart.TheVariants.{Restart}
use Rattle.rme_session_world.proofs.Answering.{attaches, comes_to_rest}
use Rattle.rme_session_world.proofs.Posting.{restarted_found}
use Rattle.rme_session_world.proofs.orders.attach.Goals as goal

pub run_until-walk-requires : goal.run_until-walk-requires
run_until-walk-requires c = record { up = (restarted_private c.args.worker, restarted_found c.args.world.now c.restart_worker.new.world c.args.worker c.restart_worker.ensures.accepted) }

pub worker_session-requires : goal.worker_session-requires
worker_session-requires c = record { rests = comes_to_rest c.args.worker c.run_until-walk.result.steps c.run_until-walk.new.world c.run_until-walk.result.end c.run_until-walk.result.left c.run_until-walk.ensures.end c.run_until-walk.ensures.plan }

pub returns : goal.returns
returns c planned asked is =
    let answer = c.attach_reply.ensures ∙ ap attach_reply c.worker_session.ensures.sight in
    let P = λ (r : SessionReply). AppliesOrder c.args.world.now None planned (Attach asked) record {
      reply = r;
      seat = Some c.args.worker;
      planned = Nothing;
      batch = Some record { worker = c.args.worker; begins = Restart; steps = c.run_until-walk.result.steps; falls = false };
    } c.run_until-walk.new.world in
    subst P (sym answer)
    (attaches c.args.world.now c.restart_worker.new.world c.run_until-walk.new.world c.args.worker c.run_until-walk.result.steps planned asked is c.requires.within c.run_until-walk.ensures.kept
    (comes_to_rest c.args.worker c.run_until-walk.result.steps c.run_until-walk.new.world c.run_until-walk.result.end c.run_until-walk.result.left c.run_until-walk.ensures.end c.run_until-walk.ensures.plan) c.restart_worker.ensures c.run_until-walk.ensures.walks)
