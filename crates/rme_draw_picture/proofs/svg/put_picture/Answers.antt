use Rattle.rme_draw_picture.proofs.Putting.{puts_more}
use Rattle.rme_draw_picture.proofs.svg.put_picture.Goals as goal

pub loop-strip-init : goal.loop-strip-init
loop-strip-init g c = puts_more (puts_more c.put_head.ensures c.put_legend.ensures) c.put.ensures

pub loop-strip-preserved : goal.loop-strip-preserved
loop-strip-preserved g c = puts_more (puts_more c.loop-strip.invariant c.put_group.ensures) c.put_strip.ensures

pub returns : goal.returns
returns g c = puts_more c.loop-strip.invariant c.put-2.ensures
