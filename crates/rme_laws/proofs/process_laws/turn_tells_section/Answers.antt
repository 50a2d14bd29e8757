use Rattle.rme_laws.proofs.ProcessSections.{section_law}
use Rattle.rme_laws.proofs.process_laws.turn_tells_section.Goals as goal

pub returns : goal.returns
returns c = section_law
