use Rattle.rme_durable_writes.specs.Sealing.{new_log}
use Rattle.rme_durable_writes.proofs.Sealing.{first_sealed, why_sealed}
use Rattle.rme_durable_writes.proofs.write_sealer.WriteSealer.seal_first.Goals as goal

pub returns-clause-sealed : goal.returns-clause-sealed
returns-clause-sealed c = first_sealed c.args.lines.now _ c.make_write.result c.make_write.ensures.lines c.make_write.ensures.bytes

pub returns-clause-why : goal.returns-clause-why
returns-clause-why c = why_sealed new_log c.args.lines.now c.make_write.result c.make_write.ensures.why
