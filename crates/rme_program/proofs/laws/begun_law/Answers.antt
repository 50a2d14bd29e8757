use Rattle.rme_program.proofs.NoteLaws.{begun_stays}
use Rattle.rme_program.proofs.laws.begun_law.Goals as goal

pub returns : goal.returns
returns c = begun_stays
