use Rattle.rme_draw_picture.proofs.Putting.{puts_more}
use Rattle.rme_draw_picture.proofs.svg.put_first_name.Goals as goal

pub returns : goal.returns
returns g c = puts_more (puts_more c.put.ensures c.put-2.ensures) c.put-3.ensures
