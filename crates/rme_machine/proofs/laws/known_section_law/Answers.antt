use Rattle.rme_machine.proofs.Knowing.{knowing}
use Rattle.rme_machine.proofs.laws.known_section_law.Goals as goal

pub returns : goal.returns
returns c = knowing
