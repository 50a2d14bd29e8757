use Rattle.rme_draw_picture.proofs.Putting.{puts_more}
use Rattle.rme_draw_picture.proofs.svg.put_title.Goals as goal

pub returns : goal.returns
returns g c = puts_more c.put.ensures c.put-2.ensures
