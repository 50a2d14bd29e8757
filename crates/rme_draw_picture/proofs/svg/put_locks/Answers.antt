use Rattle.rme_draw_picture.proofs.Putting.{puts_more, puts_none}
use Rattle.rme_draw_picture.proofs.svg.put_locks.Goals as goal

pub loop-name-init : goal.loop-name-init
loop-name-init g c = puts_none

pub loop-name-preserved-in-Some-top : goal.loop-name-preserved-in-Some-top
loop-name-preserved-in-Some-top g c = puts_more c.loop-name.invariant c.put_name.ensures

pub loop-name-preserved : goal.loop-name-preserved
loop-name-preserved g c = c.loop-name.invariant
