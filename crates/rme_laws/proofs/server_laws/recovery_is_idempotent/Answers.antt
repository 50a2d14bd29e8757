use Rattle.rme_laws.proofs.Crashes.{recovers_again}
use Rattle.rme_laws.proofs.server_laws.recovery_is_idempotent.Goals as goal

pub returns : goal.returns
returns c names others bytes crashes found begun again whole recovers all writes fallen twice = recovers_again names others bytes crashes found begun again whole recovers all writes fallen twice
