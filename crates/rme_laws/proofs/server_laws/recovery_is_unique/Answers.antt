use Rattle.rme_laws.proofs.Lines.{starts_alike}
use Rattle.rme_laws.proofs.server_laws.recovery_is_unique.Goals as goal

pub returns : goal.returns
returns c bytes names others one other first second = starts_alike bytes names others one other first second
