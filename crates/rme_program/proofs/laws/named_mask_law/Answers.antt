use Rattle.rme_program.proofs.RowLaws.{named_mask}
use Rattle.rme_program.proofs.laws.named_mask_law.Goals as goal

pub returns : goal.returns
returns c = named_mask
