-- Some text was put so far.
use Rattle.rme_draw_picture.specs.Pages.{SomeTextPut}
use Rattle.rme_draw_picture.proofs.entries.put_cells.Given as goal

abbrev pub invariant-loop-cell : goal.invariant-loop-cell
invariant-loop-cell g l = SomeTextPut g.W.Sink.contents g.W.Sink.took l.fn.page l.fn.writer l.page l.writer
