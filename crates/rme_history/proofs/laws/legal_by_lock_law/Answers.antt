use Rattle.rme_history.proofs.Machines.{legal_both}
use Rattle.rme_history.proofs.laws.legal_by_lock_law.Goals as goal

pub returns : goal.returns
returns c = legal_both
