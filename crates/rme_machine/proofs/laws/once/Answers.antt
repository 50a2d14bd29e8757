use Rattle.rme_machine.proofs.Reached.{once}
use Rattle.rme_machine.proofs.laws.once.Goals as goal

pub returns : goal.returns
returns c = once
