use Rattle.rme_durable_log.proofs.Authors.{lasts_ended}
use Rattle.rme_durable_log.proofs.log_appender.LogAppender.end_author.Goals as goal

pub invariant_of-self : goal.invariant_of-self
invariant_of-self g c =
    let it = c.self.inside in
    let was = c.self.invariant.0 in
    (record { head_is = was.head_is; some = was.some; since = was.since; barriers = was.barriers; by = was.by; lasts_are = lasts_ended it.authors it.told it.lasts c.remove.new.self c.number.result was.lasts_are c.remove.ensures.updates }, c.self.invariant.1)
