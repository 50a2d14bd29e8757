use Rattle.rme_durable_writes.proofs.Skips.{no_line, skips_there}
use Rattle.rme_durable_writes.proofs.found_writes.behind_line.Goals as goal

pub returns-in-None-clause-none : goal.returns-in-None-clause-none
returns-in-None-clause-none c rest skips = no_line c.args.bytes.now rest c.memchr.result c.in-None.is c.memchr.ensures skips

pub returns-in-Some-clause-some : goal.returns-in-Some-clause-some
returns-in-Some-clause-some c = skips_there c.args.bytes.now c.in-Some.end c.in-Some.ensures
