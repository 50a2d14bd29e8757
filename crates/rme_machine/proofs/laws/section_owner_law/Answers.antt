use Rattle.rme_machine.proofs.Tables.{owning}
use Rattle.rme_machine.proofs.laws.section_owner_law.Goals as goal

pub returns : goal.returns
returns c = owning
