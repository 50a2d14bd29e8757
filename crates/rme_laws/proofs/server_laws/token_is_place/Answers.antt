use Rattle.rme_laws.proofs.Places.{token_place}
use Rattle.rme_laws.proofs.server_laws.token_is_place.Goals as goal

pub returns : goal.returns
returns g c start old held now its token receipt enters begins commits client = token_place g.J.ServerTag.opening start old held now its token receipt enters begins commits client
