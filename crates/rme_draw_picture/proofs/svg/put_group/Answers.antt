use Rattle.rme_draw_picture.proofs.Putting.{puts_none}
use Rattle.rme_draw_picture.proofs.svg.put_group.Goals as goal

pub returns-then-before-gt0 : goal.returns-then-before-gt0
returns-then-before-gt0 g c = c.put.ensures

pub returns-else-before-gt0 : goal.returns-else-before-gt0
returns-else-before-gt0 g c = puts_none
