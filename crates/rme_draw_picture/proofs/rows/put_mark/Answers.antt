use Rattle.rme_draw_picture.proofs.Putting.{puts_more}
use Rattle.rme_draw_picture.proofs.rows.put_mark.Goals as goal

pub returns : goal.returns
returns g c = puts_more c.put_sign.ensures c.put_words.ensures
