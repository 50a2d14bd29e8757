use Rattle.std.proofs.Common.{sym, ◌∙◌}
use Rattle.rme_durable_server.proofs.Leading.{logged_some, logged_taken}
use Rattle.rme_durable_server.proofs.durable_executor.DurableExecutorPendingLines.take_lines.Goals as goal

pub invariant_of-self-2 : goal.invariant_of-self-2
invariant_of-self-2 g c =
    let opening = g.J.ServerTag.opening in
    let epoch = c.self.inside.executor in
    let appender = c.in_ok-appender.appender in
    let logged = logged_some opening c.self.inside.appender appender epoch (sym c.in_ok-appender.ensures.value) c.self.invariant in
    let same = c.take_lines.ensures in
    logged_taken opening g.L.LogStore.shared epoch c.take_lines.new.self appender.log c.take-2.new.self.log appender.waits c.take-2.new.self.waits logged same.executor same.base same.lives same.epoch
    c.in_ok-taken.ensures.log c.in_ok-taken.ensures.waits (c.in_ok-lines.ensures.left ∙ c.clear.ensures.bytes)
