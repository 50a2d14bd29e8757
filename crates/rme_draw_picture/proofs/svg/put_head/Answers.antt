use Rattle.rme_draw_picture.proofs.Putting.{puts_more}
use Rattle.rme_draw_picture.proofs.svg.put_head.Goals as goal

pub returns : goal.returns
returns g c =
    let title = puts_more c.put_opening.ensures c.put_title.ensures in
    let again = puts_more c.put.ensures c.put_title-2.ensures in
    puts_more (puts_more title again) c.put-2.ensures
