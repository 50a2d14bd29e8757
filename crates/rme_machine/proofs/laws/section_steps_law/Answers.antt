use Rattle.rme_machine.proofs.Returning.{sectioned}
use Rattle.rme_machine.proofs.laws.section_steps_law.Goals as goal

pub returns : goal.returns
returns c = sectioned
