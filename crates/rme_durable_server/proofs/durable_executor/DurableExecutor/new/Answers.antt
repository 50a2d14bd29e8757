use Rattle.rme_durable_server.proofs.Leading.{logged_first}
use Rattle.rme_durable_server.proofs.durable_executor.DurableExecutor.new.Goals as goal

pub invariant_of-result : goal.invariant_of-result
invariant_of-result g c = logged_first g.J.ServerTag.opening c.args.executor c.args.appender.log c.args.appender.waits c.requires.begins c.requires.first c.requires.waits c.requires.lines
