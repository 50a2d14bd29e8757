use Rattle.rme_laws.proofs.Heads.{one_run}
use Rattle.rme_laws.proofs.replica_laws.log_is_one_run.Goals as goal

pub returns : goal.returns
returns c = one_run
