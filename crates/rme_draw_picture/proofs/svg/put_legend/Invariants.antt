-- Some text was put so far.
use Rattle.rme_draw_picture.specs.Pages.{SomeTextPut}
use Rattle.rme_draw_picture.proofs.svg.put_legend.Given as goal

abbrev pub invariant-loop-phase : goal.invariant-loop-phase
invariant-loop-phase g l = SomeTextPut g.W.Sink.contents g.W.Sink.took l.fn.page l.fn.writer l.page l.writer
