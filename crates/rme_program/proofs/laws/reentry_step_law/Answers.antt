use Rattle.rme_program.proofs.RowLaws.{reentry}
use Rattle.rme_program.proofs.laws.reentry_step_law.Goals as goal

pub returns : goal.returns
returns c = reentry
