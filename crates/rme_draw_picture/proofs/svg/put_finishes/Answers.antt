use Rattle.rme_draw_picture.proofs.Putting.{puts_more, puts_none}
use Rattle.rme_draw_picture.proofs.svg.put_finishes.Goals as goal

pub loop-index-init : goal.loop-index-init
loop-index-init g c = puts_none

pub loop-index-preserved : goal.loop-index-preserved
loop-index-preserved g c = puts_more c.loop-index.invariant c.put_finish.ensures
