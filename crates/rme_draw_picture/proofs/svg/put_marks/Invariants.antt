-- Some text was put so far.
use Rattle.rme_draw_picture.specs.Pages.{SomeTextPut}
use Rattle.rme_draw_picture.proofs.svg.put_marks.Given as goal

abbrev pub invariant-loop-index : goal.invariant-loop-index
invariant-loop-index g l = SomeTextPut g.W.Sink.contents g.W.Sink.took l.fn.page l.fn.writer l.page l.writer
