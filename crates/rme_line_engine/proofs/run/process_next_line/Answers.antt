use Rattle.std.proofs.Common.{◌≢◌, [], Err, Ok, rules, string_bytes}
use Rattle.rme_line_io.specs.declared.cut.Cut.TheVariants.{End}
use Rattle.rme_line_io.specs.Cuts.{input_line_of}
use Rattle.rme_line_io.specs.Readers.{bytes_left, reader_has_ended}
use Rattle.rme_line_io.specs.LineRuns.{run_moment}
use Rattle.rme_line_engine.specs.Engines.{engine_state_of}
use Rattle.rme_line_engine.specs.Outputs.{LineOutputBytes}
use Rattle.rme_line_io.proofs.CallLemmas.{writes_as, writes_then}
use Rattle.rme_line_io.proofs.PutLemmas.{gathers_more}
use Rattle.rme_line_io.proofs.ReaderLemmas.{ended_at_end}
use Rattle.rme_line_io.proofs.RunLemmas.{cut_off, put_failed, spilt, told_failed}
use Rattle.rme_line_engine.proofs.run.process_next_line.Goals as goal

pub returns-in-Err-clause-err : goal.returns-in-Err-clause-err
returns-in-Err-clause-err g c =
    let left = g.R.Source.remaining in
    let held = g.W.Sink.contents in
    spilt (LineOutputBytes c.args.output) (engine_state_of c.args.engine.now) (run_moment left c.args.lines.now (held c.args.writer.now) c.args.buffers.now.exchange.pending)
    (run_moment left c.next_line.new.lines (held c.next_line.new.writer) c.next_line.new.self.pending) c.in-Err.fault c.in-Err.ensures.err

pub returns-in-Err-process_line-clause-err : goal.returns-in-Err-process_line-clause-err
returns-in-Err-process_line-clause-err g c =
    let left = g.R.Source.remaining in
    let held = g.W.Sink.contents in
    let new = c.next_line.new in
    let cuts = rw (← c.line.ensures) at c.in-Ok.ensures.cut in
    let more : c.in-Ok.cut ≢ End = search rules in
    rw c.in-Err-process_line.ensures.kind
    (told_failed (LineOutputBytes c.args.output) (engine_state_of c.args.engine.now) (run_moment left c.args.lines.now (held c.args.writer.now) c.args.buffers.now.exchange.pending)
    (run_moment left new.lines (held new.writer) new.self.pending) (reader_has_ended new.lines) (input_line_of c.in-Ok.cut c.line.result.now)
    (cut_off (bytes_left left c.args.lines.now) (bytes_left left new.lines) c.in-Ok.cut c.line.result.now cuts more) c.in-Ok.ensures.whole (ended_at_end left new.lines) c.in-Ok.ensures.gathers)

pub returns-in-Err-answer-clause-err : goal.returns-in-Err-answer-clause-err
returns-in-Err-answer-clause-err g c =
    let left = g.R.Source.remaining in
    let held = g.W.Sink.contents in
    let cuts = rw (← c.line.ensures) at c.in-Ok.ensures.cut in
    let front = rw c.as_bytes.ensures.value at c.in-Err-answer.ensures.front in
    let more : c.in-Ok.cut ≢ End = search rules in
    rw c.in-Err-answer.ensures.kind
    (put_failed (LineOutputBytes c.args.output) (engine_state_of c.args.engine.now) (run_moment left c.args.lines.now (held c.args.writer.now) c.args.buffers.now.exchange.pending)
    (run_moment left c.next_line.new.lines (held c.answer.new.writer) c.answer.new.self.pending) (held c.next_line.new.writer) (engine_state_of c.process_line.new.self)
    (input_line_of c.in-Ok.cut c.line.result.now) c.next_line.new.self.pending (string_bytes c.process_line.new.out)
    (cut_off (bytes_left left c.args.lines.now) (bytes_left left c.next_line.new.lines) c.in-Ok.cut c.line.result.now cuts more) c.in-Ok-process_line.ensures.told c.in-Ok.ensures.gathers front)

pub returns-clause-ok : goal.returns-clause-ok
returns-clause-ok g c =
    let left = bytes_left g.R.Source.remaining in
    let held = g.W.Sink.contents in
    let cuts = rw (← c.line.ensures) at c.in-Ok.ensures.cut in
    let gathers = rw c.as_bytes.ensures.value at c.in-Ok-answer.ensures.gathers in
    let more : c.in-Ok.cut ≢ End = search rules in (
      input_line_of c.in-Ok.cut c.line.result.now,
      string_bytes c.process_line.new.out,
      cut_off (left c.args.lines.now) (left c.next_line.new.lines) c.in-Ok.cut c.line.result.now cuts more,
      c.in-Ok-process_line.ensures.told,
      gathers_more (held c.args.writer.now) (held c.next_line.new.writer) (held c.answer.new.writer) c.args.buffers.now.exchange.pending c.next_line.new.self.pending c.answer.new.self.pending [] (string_bytes c.process_line.new.out)
          c.in-Ok.ensures.gathers gathers,
      c.in-Ok.ensures.whole,
    )

pub returns-in-Err-answer-clause-writes : goal.returns-in-Err-answer-clause-writes
returns-in-Err-answer-clause-writes g c =
    let took = g.W.Sink.took in
    writes_then (took c.args.writer.now) (took c.next_line.new.writer) (took c.answer.new.writer) (Err c.in-Err-answer.fault) c.in-Ok.ensures.writes.writes
    record { writes = c.in-Err-answer.ensures.writes; write_broke = λ _. c.in-Err-answer.ensures.broke }

pub returns-clause-writes : goal.returns-clause-writes
returns-clause-writes g c =
    let took = g.W.Sink.took in
    writes_then (took c.args.writer.now) (took c.next_line.new.writer) (took c.answer.new.writer) _ c.in-Ok.ensures.writes.writes record { writes = c.in-Ok-answer.ensures.writes; write_broke = tt }
