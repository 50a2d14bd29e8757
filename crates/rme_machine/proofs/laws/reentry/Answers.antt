use Rattle.rme_machine.proofs.Reached.{reentry}
use Rattle.rme_machine.proofs.laws.reentry.Goals as goal

pub returns : goal.returns
returns c = reentry
