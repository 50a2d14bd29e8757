use Rattle.rme_laws.proofs.Prefixes.{prefix_recovers}
use Rattle.rme_laws.proofs.server_laws.recovery_is_prefix_closed.Goals as goal

pub returns : goal.returns
returns c names others first log start state world whole from lead recovers = prefix_recovers names others first log start state world whole from lead recovers
