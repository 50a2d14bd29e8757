use Rattle.rme_machine.proofs.Events.{restart}
use Rattle.rme_machine.proofs.laws.restart_law.Goals as goal

pub returns : goal.returns
returns c = restart
