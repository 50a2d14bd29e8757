use Rattle.rme_session_protocol.specs.ClientReplies.{reply_of_client}
use Rattle.rme_durable_server.proofs.Extending.{retried}
use Rattle.rme_durable_server.proofs.order_attempts.DurableServerOrderAttempts.retry.Goals as goal

pub returns-in-Ok-clause-executes : goal.returns-in-Ok-clause-executes
returns-in-Ok-clause-executes g c tries old some executed =
    retried g.J.ServerTag.opening c.args.request.now.order c.retry_order-order.result old c.args.session c.execute_or_fail.new.session (reply_of_client c.args.reply.reply) (reply_of_client c.in-Ok.last.reply) (reply_of_client c.merge_answers.result.reply)
    tries c.requires.may c.retry_order-order.ensures c.in-Ok.ensures c.merge_answers.ensures executed
