use Rattle.rme_server.proofs.Trying.{retried}
use Rattle.rme_server.proofs.service_backend.ServiceBackendOrderAttempts.retry.Goals as goal

pub returns-clause-executes : goal.returns-clause-executes
returns-clause-executes g c tries old some first =
    retried g.K.Tag.ident c.args.self.now.slots.now tries old c.args.stand c.attempt-stand.result.0 c.args.request.now.order c.retry_order-order.result c.args.reply c.attempt-stand.result.1 c.merge_replies.result some c.requires.may c.retry_order-order.ensures c.merge_replies.ensures first c.attempt-stand.ensures.executes
