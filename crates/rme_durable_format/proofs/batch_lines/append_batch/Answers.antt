use Rattle.std.specs.Prelude.{string_bytes}
use Rattle.rme_durable_format.specs.BatchCommands.{start_commands, crash_commands, step_commands}
use Rattle.rme_durable_format.proofs.Growing.{writes_last}
use Rattle.rme_durable_format.proofs.batch_lines.append_batch.Goals as goal

pub returns-clause-written : goal.returns-clause-written
returns-clause-written c =
    let batch = c.args.batch in
    writes_last c.append_crash.result c.args.names.now (start_commands batch.worker batch.begins) (step_commands batch.worker batch.steps) (crash_commands batch.worker batch.falls)
    (string_bytes c.args.out.now) (string_bytes c.append_start.new.out) (string_bytes c.append_steps.new.out) (string_bytes c.append_crash.new.out) c.in_ok-append_start.ensures.written c.in_ok-append_steps.ensures.written c.append_crash.ensures.written
