use Rattle.rme_machine.proofs.Further.{clauses}
use Rattle.rme_machine.proofs.laws.clauses_law.Goals as goal

pub returns : goal.returns
returns c = clauses
