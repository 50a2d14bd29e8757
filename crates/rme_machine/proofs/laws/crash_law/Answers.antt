use Rattle.rme_machine.proofs.Events.{crash}
use Rattle.rme_machine.proofs.laws.crash_law.Goals as goal

pub returns : goal.returns
returns c = crash
