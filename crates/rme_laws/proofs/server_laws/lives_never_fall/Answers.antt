use Rattle.rme_laws.proofs.Lives.{lives_grow}
use Rattle.rme_laws.proofs.server_laws.lives_never_fall.Goals as goal

pub returns : goal.returns
returns c names log old new whole lead = lives_grow names log old new whole lead
