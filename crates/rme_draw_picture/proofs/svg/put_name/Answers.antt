use Rattle.rme_draw_picture.proofs.Putting.{puts_more}
use Rattle.rme_draw_picture.proofs.svg.put_name.Goals as goal

pub loop-again-init : goal.loop-again-init
loop-again-init g c = c.put_first_name.ensures

pub loop-again-preserved : goal.loop-again-preserved
loop-again-preserved g c = puts_more c.loop-again.invariant c.put_name_again.ensures
