use Rattle.rme_draw_picture.proofs.Putting.{puts_more}
use Rattle.rme_draw_picture.proofs.entries.put_receipt.Goals as goal

pub returns : goal.returns
returns g c = puts_more (puts_more (puts_more c.put_line.ensures c.put_opening.ensures) c.put.ensures) c.put_line-2.ensures
