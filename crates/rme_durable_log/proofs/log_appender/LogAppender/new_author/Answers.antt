use Rattle.std.proofs.Common.{◌<◌, arith}
use Rattle.rme_durable_log.proofs.Authors.{lasts_begun}
use Rattle.rme_durable_log.proofs.Texts.{appender_authors}
use Rattle.rme_durable_log.proofs.log_appender.LogAppender.new_author.Goals as goal

pub invariant_of-self-2 : goal.invariant_of-self-2
invariant_of-self-2 g c =
    let it = c.self.inside in
    let more = c.in_ok-authors.authors in
    let less : it.authors < more = omega (arith, c.in_ok-authors.ensures) in
    let lasts = lasts_begun it.authors more it.told it.lasts c.insert.new.self c.self.invariant.0.lasts_are c.self.invariant.0.by less c.in-Ok.ensures.updates in
    (appender_authors g.J.LogTag.book it.head it.taken it.told it.authors more it.lasts c.insert.new.self c.self.invariant.0 (omega (arith, less)) lasts, c.self.invariant.1)
