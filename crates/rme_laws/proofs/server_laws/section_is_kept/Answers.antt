use Rattle.rme_laws.proofs.Sections.{section_stays}
use Rattle.rme_laws.proofs.server_laws.section_is_kept.Goals as goal

pub returns : goal.returns
returns g c start old held now before after next last worker job begins first second inside = section_stays g.J.ServerTag.opening start old held now before after next last worker job begins first second inside
