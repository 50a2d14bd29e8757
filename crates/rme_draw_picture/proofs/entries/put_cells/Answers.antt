use Rattle.rme_draw_picture.proofs.Putting.{puts_more}
use Rattle.rme_draw_picture.proofs.entries.put_cells.Goals as goal

pub loop-cell-init : goal.loop-cell-init
loop-cell-init g c = puts_more c.put_opening.ensures c.put.ensures

pub loop-cell-preserved : goal.loop-cell-preserved
loop-cell-preserved g c = puts_more c.loop-cell.invariant c.put_cell.ensures

pub returns : goal.returns
returns g c = puts_more c.loop-cell.invariant c.put-2.ensures
