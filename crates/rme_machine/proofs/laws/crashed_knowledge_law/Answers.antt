use Rattle.rme_machine.proofs.Further.{staying}
use Rattle.rme_machine.proofs.laws.crashed_knowledge_law.Goals as goal

pub returns : goal.returns
returns c = staying
