use Rattle.rme_laws.proofs.Others.{keeps_worker}
use Rattle.rme_laws.proofs.server_laws.session_keeps_worker.Goals as goal

pub returns : goal.returns
returns c names session worker log old new lead others within has = keeps_worker names session worker log old new lead others within has
