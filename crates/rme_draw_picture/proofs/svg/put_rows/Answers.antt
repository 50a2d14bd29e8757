use Rattle.rme_draw_picture.proofs.Putting.{puts_more}
use Rattle.rme_draw_picture.proofs.svg.put_rows.Goals as goal

pub returns : goal.returns
returns g c = puts_more (puts_more (puts_more c.put_stays.ensures c.put_holds.ensures) c.put_marks.ensures) c.put_finishes.ensures
