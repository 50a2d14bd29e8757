use Rattle.rme_draw_picture.proofs.Putting.{puts_none}
use Rattle.rme_draw_picture.proofs.svg.put_checkpoint_label.Goals as goal

pub returns-then-not-drawing : goal.returns-then-not-drawing
returns-then-not-drawing g c = puts_none

pub returns : goal.returns
returns g c = c.put.ensures
