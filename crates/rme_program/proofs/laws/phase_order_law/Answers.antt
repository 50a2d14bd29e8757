use Rattle.rme_program.proofs.NoteLaws.{phase_law}
use Rattle.rme_program.proofs.laws.phase_order_law.Goals as goal

pub returns : goal.returns
returns c = phase_law
