use Rattle.rme_program.proofs.RowLaws.{row_lengths}
use Rattle.rme_program.proofs.laws.row_lengths_law.Goals as goal

pub returns : goal.returns
returns c = row_lengths
