use Rattle.rme_draw_picture.proofs.Putting.{puts_more}
use Rattle.rme_draw_picture.proofs.entries.put_cell.Goals as goal

pub returns-then-not-is_new : goal.returns-then-not-is_new
returns-then-not-is_new g c = c.put.ensures

pub returns : goal.returns
returns g c = puts_more (puts_more c.put-2.ensures c.put_opening.ensures) c.put-3.ensures
