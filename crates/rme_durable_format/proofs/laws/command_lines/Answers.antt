use Rattle.rme_durable_format.proofs.CommandReading.{always_line}
use Rattle.rme_durable_format.proofs.laws.command_lines.Goals as goal

pub returns : goal.returns
returns c names command has = always_line names command has
