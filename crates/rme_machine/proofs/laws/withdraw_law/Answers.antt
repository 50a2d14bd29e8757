use Rattle.rme_machine.proofs.Events.{withdraw}
use Rattle.rme_machine.proofs.laws.withdraw_law.Goals as goal

pub returns : goal.returns
returns c = withdraw
