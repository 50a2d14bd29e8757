use Rattle.rme_laws.proofs.Heads.{one_log}
use Rattle.rme_laws.proofs.replica_laws.own_head_tells_log.Goals as goal

pub returns : goal.returns
returns c = one_log
