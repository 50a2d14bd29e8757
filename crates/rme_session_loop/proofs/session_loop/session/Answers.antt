use Rattle.rme_line_io.specs.LineRuns.{stream_moment}
use Rattle.rme_session_loop.specs.SessionRuns.{AnswersWhileOpen}
use Rattle.rme_session_loop.proofs.Finishing.{session_ended, session_failed, session_reads}
use Rattle.rme_session_loop.proofs.session_loop.session.Goals as goal

pub returns-clause-ok : goal.returns-clause-ok
returns-clause-ok g c =
    let backend = c.args.backend.now in
    let has = AnswersWhileOpen (g.B.Backend.finished backend) (g.B.Backend.answers backend (g.C.Client.gone c.args.client.now)) in
    let begun = c.begin_session-stand in
    let run = c.answer_lines-stand in
    let start = stream_moment g.I.Source.remaining c.args.lines.now (g.O.Sink.contents c.args.writer.now) in
    let end = stream_moment g.I.Source.remaining run.new.lines (g.O.Sink.contents run.new.writer) in
    session_ended has begun.result (g.B.Backend.nobody backend) begun.ensures.nobody start end run.result.0 (g.B.Backend.finished backend) run.result.1 run.ensures.ok run.ensures.finished

pub returns-clause-err : goal.returns-clause-err
returns-clause-err g c =
    let backend = c.args.backend.now in
    let has = AnswersWhileOpen (g.B.Backend.finished backend) (g.B.Backend.answers backend (g.C.Client.gone c.args.client.now)) in
    let begun = c.begin_session-stand in
    let run = c.answer_lines-stand in
    let start = stream_moment g.I.Source.remaining c.args.lines.now (g.O.Sink.contents c.args.writer.now) in
    let end = stream_moment g.I.Source.remaining run.new.lines (g.O.Sink.contents run.new.writer) in
    session_failed has begun.result (g.B.Backend.nobody backend) begun.ensures.nobody start end run.result.1 run.ensures.err

pub returns-clause-reads : goal.returns-clause-reads
returns-clause-reads g c =
    let backend = c.args.backend.now in
    let has = AnswersWhileOpen (g.B.Backend.finished backend) (g.B.Backend.answers backend (g.C.Client.gone c.args.client.now)) in
    let begun = c.begin_session-stand in
    let run = c.answer_lines-stand in
    let start = stream_moment g.I.Source.remaining c.args.lines.now (g.O.Sink.contents c.args.writer.now) in
    session_reads has begun.result (g.B.Backend.nobody backend) begun.ensures.nobody start g.I.Source.gave g.I.Source.moments c.args.lines.now run.new.lines run.result.1 run.ensures.reads
