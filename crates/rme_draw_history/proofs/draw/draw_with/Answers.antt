use Rattle.rme_line_io.specs.Readers.{bytes_left}
use Rattle.rme_draw_history.proofs.Observing.{answered_by}
use Rattle.rme_draw_history.proofs.draw.draw_with.Goals as goal

pub returns-in-Ok-clause-answered : goal.returns-in-Ok-clause-answered
returns-in-Ok-clause-answered g c =
    answered_by g.P.Paint.paints c.args.request (bytes_left g.R.Source.remaining c.args.lines.now) (g.W.Sink.contents c.args.writer.now) (g.W.Sink.contents c.write_answer.new.writer) c.new-follower.result c.watch_lines.new.watcher
    c.in-Ok.verdict c.write_answer.result c.new-follower.ensures c.in-Ok.ensures.shown c.in-Ok.ensures.verdict c.write_answer.ensures.given
