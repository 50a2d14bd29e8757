use Rattle.std.proofs.Common.{refl}
use Rattle.rme_keys.proofs.workers.single_range.Goals as goal

pub returns-in_default : goal.returns-in_default
returns-in_default c = λ range named. c.in_default.ensures range.first named.0

pub returns : goal.returns
returns c = (c.in-Some.ensures, refl)
