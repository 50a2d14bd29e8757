use Rattle.rme_draw_picture.proofs.Putting.{puts_more, puts_none}
use Rattle.rme_draw_picture.proofs.page.Page.put.Goals as goal

pub loop-piece-init : goal.loop-piece-init
loop-piece-init g c = puts_none

pub loop-piece-preserved : goal.loop-piece-preserved
loop-piece-preserved g c = puts_more c.loop-piece.invariant c.put_piece.ensures
