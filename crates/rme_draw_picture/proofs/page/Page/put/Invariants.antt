-- Some text was put so far.
use Rattle.rme_draw_picture.specs.Pages.{SomeTextPut}
use Rattle.rme_draw_picture.proofs.page.Page.put.Given as goal

abbrev pub invariant-loop-piece : goal.invariant-loop-piece
invariant-loop-piece g l = SomeTextPut g.W.Sink.contents g.W.Sink.took l.fn.self l.fn.writer l.self l.writer
