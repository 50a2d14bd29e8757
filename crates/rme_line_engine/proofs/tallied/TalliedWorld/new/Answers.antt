use Rattle.std.proofs.Common.{refl}
use Rattle.rme_line_engine.proofs.TallyLemmas.{all_zero}
use Rattle.rme_line_engine.proofs.tallied.TalliedWorld.new.Goals as goal

pub returns : goal.returns
returns c = let zero = all_zero c.new.result c.new.ensures in rw zero refl
