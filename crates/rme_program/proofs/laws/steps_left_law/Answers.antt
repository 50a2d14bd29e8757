use Rattle.rme_program.proofs.NoteLaws.{some_left}
use Rattle.rme_program.proofs.laws.steps_left_law.Goals as goal

pub returns : goal.returns
returns c = some_left
