use Rattle.rme_durable_format.proofs.CommandReading.{crash_fails}
use Rattle.rme_durable_format.proofs.batch_lines.append_crash.Goals as goal

pub returns-clause-err : goal.returns-clause-err
returns-clause-err c = crash_fails c.push.result c.args.names.now c.args.worker c.ranges.worker.fits c.push.ensures.none
