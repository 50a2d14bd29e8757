use Rattle.std.proofs.Common.{◌∙◌, sym}
use Rattle.rme_durable_log.proofs.Texts.{appender_replaces}
use Rattle.rme_durable_log.proofs.log_appender.LogAppender.replace_all.Goals as goal

pub invariant_of-self : goal.invariant_of-self
invariant_of-self g c =
    (appender_replaces g.J.LogTag.book c.self.inside.head c.self.inside.taken c.self.inside.told c.again.result c.again-2.result c.self.inside.authors c.self.inside.lasts c.args.bytes.now c.self.invariant.0 (c.again.ensures ∙ c.in_ok-told.ensures) (c.again-2.ensures ∙ sym c.again.ensures), c.self.invariant.1)
