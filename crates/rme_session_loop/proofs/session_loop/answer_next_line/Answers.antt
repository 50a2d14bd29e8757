use Rattle.std.proofs.Common.{◌≡◌, ◌≢◌, ◌∙◌, ℕ, List, [], Err, Ok, rules, subst, sym, true}
use Rattle.std.proofs.lemmas.Result.{IfErr-at_err, IfOk-at_ok}
use Rattle.rme_line_io.specs.Cuts.{input_line_of}
use Rattle.rme_line_io.specs.BufferedWrites.{BufferedWrite}
use Rattle.rme_line_io.specs.Readers.{bytes_left, reader_has_ended}
use Rattle.rme_line_io.specs.LineRuns.{LineRunStepFails, run_moment}
use Rattle.rme_line_io.specs.declared.cut.Cut.TheVariants.{End}
use Rattle.rme_line_io.specs.declared.fault.EngineFault.{EngineFault}
use Rattle.rme_line_io.proofs.PutLemmas.{gathers_more}
use Rattle.rme_line_io.proofs.ReaderLemmas.{ended_at_end}
use Rattle.rme_line_io.proofs.RunLemmas.{cut_off, put_failed, spilt}
use Rattle.rme_line_io.proofs.CallLemmas.{writes_then}
use Rattle.rme_line_io.proofs.TrafficLemmas.{writes_more}
use Rattle.rme_line_io.specs.StreamEvents.{LastWriteFailed}
use Rattle.rme_session_loop.specs.SessionAnswers.{AnswerFailure}
use Rattle.rme_session_loop.specs.declared.attempt_error.AnswerError.{AnswerError}
use Rattle.rme_session_loop.specs.declared.attempt_error.AnswerError.TheVariants as error
use Rattle.rme_session_loop.specs.SessionRuns.{AnswersWhileOpen}
use Rattle.rme_session_loop.proofs.Talking.{broke_writing, broken}
use Rattle.rme_session_loop.proofs.session_loop.answer_next_line.Goals as goal

pub returns-in-Err-clause-err : goal.returns-in-Err-clause-err
returns-in-Err-clause-err g c =
    let has = AnswersWhileOpen (g.B.Backend.finished c.args.context.now.backend.now) (g.B.Backend.answers c.args.context.now.backend.now (g.C.Client.gone c.args.context.now.client.now)) in
    let left = g.I.Source.remaining in
    let held = g.O.Sink.contents in
    spilt has c.args.stand (run_moment left c.args.lines.now (held c.args.writer.now) c.args.buffers.now.exchange.pending)
    (run_moment left c.next_line.new.lines (held c.next_line.new.writer) c.next_line.new.self.pending) c.in-Err.fault c.in-Err.ensures.err

pub returns-in-Err-answered-clause-err : goal.returns-in-Err-answered-clause-err
returns-in-Err-answered-clause-err g c =
    let has = AnswersWhileOpen (g.B.Backend.finished c.args.context.now.backend.now) (g.B.Backend.answers c.args.context.now.backend.now (g.C.Client.gone c.args.context.now.client.now)) in
    let left = g.I.Source.remaining in
    let held = g.O.Sink.contents in
    let mid = c.next_line.new.writer in
    let new = c.answer-stand.new.writer in
    let keeps = c.next_line.new.self.pending in
    let last = c.answer-stand.new.buffers.exchange.pending in
    let line = c.next_line.new.self.line.items in
    let before = run_moment left c.args.lines.now (held c.args.writer.now) c.args.buffers.now.exchange.pending in
    let after = run_moment left c.next_line.new.lines (held new) last in
    let more : c.in-Ok.cut ≢ End = search rules in
    let B : AnswerError → Type 0 = λ why. AnswerFailure why (held mid) keeps (held new) last in
    let F : EngineFault → Type 0 = λ fault. LineRunStepFails has fault c.args.stand before after in
    subst F (sym c.session_fault.ensures)
    (broken has c.args.stand before after (held mid) keeps c.in-Err-answered.why (reader_has_ended c.next_line.new.lines) (input_line_of c.in-Ok.cut line)
    (cut_off (bytes_left left c.args.lines.now) (bytes_left left c.next_line.new.lines) c.in-Ok.cut line c.in-Ok.ensures.cut more) c.in-Ok.ensures.whole (ended_at_end left c.next_line.new.lines)
    c.in-Ok.ensures.gathers (IfErr-at_err B c.in-Err-answered.is c.answer-stand.ensures.err))

pub returns-in-Ok-answer-clause-ok : goal.returns-in-Ok-answer-clause-ok
returns-in-Ok-answer-clause-ok g c =
    let left = bytes_left g.I.Source.remaining in
    let held = g.O.Sink.contents in
    let kept = c.args.buffers.now.exchange.pending in
    let keeps = c.next_line.new.self.pending in
    let after = c.answer-stand.new.buffers.exchange.pending in
    let line = input_line_of c.in-Ok.cut c.next_line.new.self.line.items in
    let bytes = c.as_bytes.result.now in
    let more : c.in-Ok.cut ≢ End = search rules in
    let A : List ℕ → Type 0 = λ b. g.B.Backend.answers c.args.context.now.backend.now (g.C.Client.gone c.args.context.now.client.now) c.args.stand line b c.answer-stand.result.0 in
    let G : Type 0 = BufferedWrite (held c.next_line.new.writer) keeps [] (held c.answer-stand.new.writer) after in
    let first = gathers_more (held c.args.writer.now) (held c.next_line.new.writer) (held c.answer-stand.new.writer) kept keeps after [] [] c.in-Ok.ensures.gathers
    (IfOk-at_ok (λ _. G) c.in-Ok-answered.is c.answer-stand.ensures.gathers) in (
      line,
      bytes,
      cut_off (left c.args.lines.now) (left c.next_line.new.lines) c.in-Ok.cut c.next_line.new.self.line.items c.in-Ok.ensures.cut more,
      (c.requires.open, subst A (sym c.as_bytes.ensures.value) (IfOk-at_ok (λ _. A c.answer-stand.new.buffers.text.bytes.items) c.in-Ok-answered.is c.answer-stand.ensures.answers)),
      gathers_more (held c.args.writer.now) (held c.answer-stand.new.writer) (held c.answer.new.writer) kept after c.answer.new.self.pending [] bytes first c.in-Ok-answer.ensures.gathers,
      c.in-Ok.ensures.whole,
    )

pub returns-in-Err-answer-clause-err : goal.returns-in-Err-answer-clause-err
returns-in-Err-answer-clause-err g c =
    let has = AnswersWhileOpen (g.B.Backend.finished c.args.context.now.backend.now) (g.B.Backend.answers c.args.context.now.backend.now (g.C.Client.gone c.args.context.now.client.now)) in
    let left = g.I.Source.remaining in
    let held = g.O.Sink.contents in
    let kept = c.args.buffers.now.exchange.pending in
    let keeps = c.next_line.new.self.pending in
    let after = c.answer-stand.new.buffers.exchange.pending in
    let line = input_line_of c.in-Ok.cut c.next_line.new.self.line.items in
    let start = run_moment left c.args.lines.now (held c.args.writer.now) kept in
    let end = run_moment left c.next_line.new.lines (held c.answer.new.writer) c.answer.new.self.pending in
    let more : c.in-Ok.cut ≢ End = search rules in
    let A : List ℕ → Type 0 = λ b. g.B.Backend.answers c.args.context.now.backend.now (g.C.Client.gone c.args.context.now.client.now) c.args.stand line b c.answer-stand.result.0 in
    let G : Type 0 = BufferedWrite (held c.next_line.new.writer) keeps [] (held c.answer-stand.new.writer) after in
    let first = gathers_more (held c.args.writer.now) (held c.next_line.new.writer) (held c.answer-stand.new.writer) kept keeps after [] [] c.in-Ok.ensures.gathers
    (IfOk-at_ok (λ _. G) c.in-Ok-answered.is c.answer-stand.ensures.gathers) in
    let had : has c.args.stand line c.as_bytes.result.now c.answer-stand.result.0 = (c.requires.open, subst A (sym c.as_bytes.ensures.value) (IfOk-at_ok (λ _. A c.answer-stand.new.buffers.text.bytes.items) c.in-Ok-answered.is c.answer-stand.ensures.answers)) in
    let P : EngineFault → Type 0 = λ fault. LineRunStepFails has fault c.args.stand start end in
    subst P (sym c.in-Err-answer.ensures.kind)
    (put_failed has c.args.stand start end (held c.answer-stand.new.writer) c.answer-stand.result.0 line after c.as_bytes.result.now
    (cut_off (bytes_left left c.args.lines.now) (bytes_left left c.next_line.new.lines) c.in-Ok.cut c.next_line.new.self.line.items c.in-Ok.ensures.cut more) had first c.in-Err-answer.ensures.front)

pub returns-in-Err-answered-clause-writes : goal.returns-in-Err-answered-clause-writes
returns-in-Err-answered-clause-writes g c =
    let took = g.O.Sink.took in
    let mid = c.next_line.new.writer in
    let new = c.answer-stand.new.writer in
    let B : AnswerError → Type 0 = λ why. why ≡ error.WriteFailed → LastWriteFailed (took mid) (took new) in
    writes_then (took c.args.writer.now) (took mid) (took new) (Err c.session_fault.result) c.in-Ok.ensures.writes.writes record {
      writes = c.answer-stand.ensures.writes;
      write_broke = λ e. broke_writing (took mid) (took new) c.in-Err-answered.why (IfErr-at_err B c.in-Err-answered.is c.answer-stand.ensures.broke) (sym c.session_fault.ensures ∙ e);
    }

pub returns-in-Ok-answer-clause-writes : goal.returns-in-Ok-answer-clause-writes
returns-in-Ok-answer-clause-writes g c =
    let took = g.O.Sink.took in
    let first = writes_more (took c.args.writer.now) (took c.next_line.new.writer) (took c.answer-stand.new.writer) c.in-Ok.ensures.writes.writes c.answer-stand.ensures.writes in
    writes_then (took c.args.writer.now) (took c.answer-stand.new.writer) (took c.answer.new.writer) (Ok true) first record { writes = c.in-Ok-answer.ensures.writes; write_broke = tt }

pub returns-in-Err-answer-clause-writes : goal.returns-in-Err-answer-clause-writes
returns-in-Err-answer-clause-writes g c =
    let took = g.O.Sink.took in
    let first = writes_more (took c.args.writer.now) (took c.next_line.new.writer) (took c.answer-stand.new.writer) c.in-Ok.ensures.writes.writes c.answer-stand.ensures.writes in
    writes_then (took c.args.writer.now) (took c.answer-stand.new.writer) (took c.answer.new.writer) (Err c.in-Err-answer.fault) first record {
      writes = c.in-Err-answer.ensures.writes;
      write_broke = λ _. c.in-Err-answer.ensures.broke;
    }
