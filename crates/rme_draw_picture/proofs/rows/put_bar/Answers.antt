use Rattle.rme_draw_picture.proofs.Putting.{puts_more}
use Rattle.rme_draw_picture.proofs.rows.put_bar.Goals as goal

pub returns-then-has_room : goal.returns-then-has_room
returns-then-has_room g c = puts_more (puts_more (puts_more c.put_box.ensures c.put.ensures) c.put-2.ensures) c.put_centred.ensures

pub returns-then-has_room-2 : goal.returns-then-has_room-2
returns-then-has_room-2 g c =
    puts_more (puts_more (puts_more c.put_box.ensures c.put.ensures) c.put-2.ensures) c.put_centred-then-has_room-2.ensures

pub returns-else-has_room-2 : goal.returns-else-has_room-2
returns-else-has_room-2 g c = puts_more (puts_more c.put_box.ensures c.put.ensures) c.put-2.ensures
