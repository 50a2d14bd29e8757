use Rattle.rme_laws.proofs.Histories.{all_alike}
use Rattle.rme_laws.proofs.server_laws.log_determines_state.Goals as goal

pub returns : goal.returns
returns c names log old again one other alike first second = all_alike names log old again one other alike first second
