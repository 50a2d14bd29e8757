use Rattle.rme_durable_format.proofs.Running.{command_runs}
use Rattle.rme_durable_format.proofs.laws.commands.Goals as goal

pub returns : goal.returns
returns c old new command reply changes none does = command_runs old new reply none command changes does
