use Rattle.rme_program.proofs.MaskLemmas.{same_mask}
use Rattle.rme_program.proofs.masks.mask_of.Goals as goal

pub returns : goal.returns
returns c = same_mask _ _ c.named.ensures.mask
