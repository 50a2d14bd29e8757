use Rattle.rme_machine.proofs.Events.{submit}
use Rattle.rme_machine.proofs.laws.submit_law.Goals as goal

pub returns : goal.returns
returns c = submit
