use Rattle.rme_program.proofs.RowLaws.{begin_law}
use Rattle.rme_program.proofs.laws.stay_start_law.Goals as goal

pub returns : goal.returns
returns c = begin_law
