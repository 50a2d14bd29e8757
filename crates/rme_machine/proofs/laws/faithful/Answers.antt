use Rattle.rme_machine.proofs.Faithful.{faithful}
use Rattle.rme_machine.proofs.laws.faithful.Goals as goal

pub returns : goal.returns
returns c = faithful
