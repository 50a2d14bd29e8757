use Rattle.rme_draw_picture.proofs.Putting.{puts_more}
use Rattle.rme_draw_picture.proofs.entries.put_finish.Goals as goal

pub returns : goal.returns
returns g c = puts_more (puts_more c.put.ensures c.put_receipt.ensures) c.put_cells.ensures
