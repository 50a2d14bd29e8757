use Rattle.rme_laws.proofs.Inside.{stays_inside}
use Rattle.rme_laws.proofs.server_laws.inside_is_kept.Goals as goal

pub returns : goal.returns
returns g c start old held now before after next last worker job begins first second inside = stays_inside g.J.ServerTag.opening start old held now before after next last worker job begins first second inside
