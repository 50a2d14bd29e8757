use Rattle.rme_draw_picture.proofs.Putting.{puts_more, puts_none}
use Rattle.rme_draw_picture.proofs.svg.put_workers.Goals as goal

pub loop-worker-init : goal.loop-worker-init
loop-worker-init g c = puts_none

pub loop-worker-preserved : goal.loop-worker-preserved
loop-worker-preserved g c = puts_more c.loop-worker.invariant c.put_name.ensures

pub returns : goal.returns
returns g c = puts_more c.loop-worker.invariant c.put_checkpoint_label.ensures
