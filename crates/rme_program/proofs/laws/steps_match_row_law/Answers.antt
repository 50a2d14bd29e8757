use Rattle.rme_program.proofs.RowLaws.{place_law}
use Rattle.rme_program.proofs.laws.steps_match_row_law.Goals as goal

pub returns : goal.returns
returns c = place_law
