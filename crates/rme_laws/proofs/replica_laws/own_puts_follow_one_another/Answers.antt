use Rattle.rme_laws.proofs.Heads.{unbroken}
use Rattle.rme_laws.proofs.replica_laws.own_puts_follow_one_another.Goals as goal

pub returns : goal.returns
returns c = unbroken
