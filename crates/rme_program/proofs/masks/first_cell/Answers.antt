use Rattle.rme_program.proofs.MaskLemmas.{first_is}
use Rattle.rme_program.proofs.masks.first_cell.Goals as goal

pub returns-clause-first : goal.returns-clause-first
returns-clause-first c = first_is _ _ _ _ c.next_cell.ensures.rest
