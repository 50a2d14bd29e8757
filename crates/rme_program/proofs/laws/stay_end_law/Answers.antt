use Rattle.rme_program.proofs.WalkLaws.{end_law}
use Rattle.rme_program.proofs.laws.stay_end_law.Goals as goal

pub returns : goal.returns
returns c = end_law
