use Rattle.rme_draw_picture.proofs.Putting.{puts_more}
use Rattle.rme_draw_picture.proofs.entries.put_line.Goals as goal

pub returns : goal.returns
returns g c = puts_more c.put_opening.ensures c.put.ensures
