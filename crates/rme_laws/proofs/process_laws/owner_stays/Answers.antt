use Rattle.rme_laws.proofs.Staying.{owner_stays_law}
use Rattle.rme_laws.proofs.process_laws.owner_stays.Goals as goal

pub returns : goal.returns
returns c = owner_stays_law
