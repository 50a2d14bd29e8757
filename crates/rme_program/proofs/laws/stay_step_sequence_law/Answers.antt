use Rattle.rme_program.proofs.WalkLaws.{walk_law}
use Rattle.rme_program.proofs.laws.stay_step_sequence_law.Goals as goal

pub returns : goal.returns
returns c = walk_law
