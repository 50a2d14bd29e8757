use Rattle.rme_draw_picture.proofs.Putting.{puts_more}
use Rattle.rme_draw_picture.proofs.svg.put_columns.Goals as goal

pub loop-line-init : goal.loop-line-init
loop-line-init g c = c.put.ensures

pub loop-line-preserved : goal.loop-line-preserved
loop-line-preserved g c = puts_more c.loop-line.invariant c.put_column.ensures
