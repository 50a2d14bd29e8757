use Rattle.rme_machine.proofs.Returning.{returning}
use Rattle.rme_machine.proofs.laws.bounded_reentry_law.Goals as goal

pub returns : goal.returns
returns c = returning
