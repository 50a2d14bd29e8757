use Rattle.rme_draw_picture.proofs.Putting.{puts_more, puts_none}
use Rattle.rme_draw_picture.proofs.svg.put_legend.Goals as goal

pub loop-phase-init : goal.loop-phase-init
loop-phase-init g c = puts_none

pub loop-phase-preserved : goal.loop-phase-preserved
loop-phase-preserved g c = puts_more c.loop-phase.invariant c.put.ensures
