use Rattle.std.proofs.Common.{◌≡◌, ◌<◌, Bool, Ok, Err, false, refl, subst, true}
use Rattle.std.specs.Prelude.{IfErr, IfOk, Result}
use Rattle.rme_line_io.specs.declared.fault.EngineFault.{EngineFault}
use Rattle.rme_line_io.specs.Readers.{BufferWrittenSince, ReaderEnded, most_lines}
use Rattle.rme_line_io.specs.StreamCalls.{CallReads, CallWrites}
use Rattle.rme_line_io.specs.LineRuns.{AnswersArePrompt, LineRunStepFails, LineRunStep, run_moment, stream_moment}
use Rattle.rme_line_io.proofs.ReaderLemmas.{ended_at_end}
use Rattle.rme_line_io.proofs.RunLemmas.{failed, finished, so_far_first, so_far_more}
use Rattle.rme_line_io.proofs.CallLemmas.{reads_as, reads_first, reads_more, reads_prompt, reads_then, writes_as, writes_then}
use Rattle.rme_line_io.proofs.TrafficLemmas.{writes_more, writes_none}
use Rattle.rme_session_loop.specs.SessionRuns.{AnswersWhileOpen, SessionWrites}
use Rattle.rme_session_loop.specs.declared.session_loop.SessionEnd.{SessionEnd}
use Rattle.rme_session_loop.specs.declared.session_loop.SessionEnd.TheVariants.{NoMoreLines, Finished}
use Rattle.rme_session_loop.proofs.Finishing.{finished_writes, last_reads, last_writes, last_write_failed}
use Rattle.rme_session_loop.proofs.session_loop.answer_all_lines.Goals as goal

pub loop-init : goal.loop-init
loop-init g c =
    let has = AnswersWhileOpen (g.B.Backend.finished c.args.context.now.backend.now) (g.B.Backend.answers c.args.context.now.backend.now (g.C.Client.gone c.args.context.now.client.now)) in
    let first = c.args.first in
    let start = stream_moment g.I.Source.remaining c.args.lines.now (g.O.Sink.contents c.args.writer.now) in record {
      may_hold = c.requires.may_hold;
      so_far = so_far_first has start c.args.lines.now.ended first first c.args.buffers.now.exchange.pending refl c.requires.none_kept
          (ended_at_end g.I.Source.remaining c.args.lines.now);
      reads = reads_first g.I.Source.gave g.I.Source.moments c.args.lines.now (AnswersArePrompt has first start);
      writes = writes_none (g.O.Sink.took c.args.writer.now);
    }

pub loop-preserved : goal.loop-preserved
loop-preserved g c =
    let has = AnswersWhileOpen (g.B.Backend.finished c.args.context.now.backend.now) (g.B.Backend.answers c.args.context.now.backend.now (g.C.Client.gone c.args.context.now.client.now)) in
    let held = g.O.Sink.contents in
    let took = g.O.Sink.took in
    let left = g.I.Source.remaining in
    let now = c.loop in
    let new = c.answer_next_line-next.new in
    let first = c.args.first in
    let start = stream_moment left c.args.lines.now (held c.args.writer.now) in
    let at = run_moment left now.lines (held now.writer) now.buffers.exchange.pending in
    let next = run_moment left new.lines (held new.writer) new.buffers.exchange.pending in
    let result = c.answer_next_line-next.result.1 in
    let P : Bool → Type 0 = λ more. LineRunStep has now.stand c.answer_next_line-next.result.0 at next more in
    let R : Result Bool EngineFault → Type 0 = λ r. IfOk r P in
    let L : Result Bool EngineFault → Type 0 = λ r. IfOk r (λ more. more ≡ true → most_lines new.lines < most_lines now.lines) in
    let fewer = subst L c.in-Ok-true.is c.answer_next_line-next.ensures.fewer in
    let call = reads_prompt g.I.Source.gave g.I.Source.moments has first start now.stand at now.invariant.so_far now.lines new.lines result refl c.answer_next_line-next.ensures.reads in record {
      may_hold = c.answer_next_line-next.ensures.may_hold;
      so_far = so_far_more has first start now.stand at now.invariant.so_far c.answer_next_line-next.result.0 next (λ e. (c.answer_next_line-next.ensures.reads.ended e).ended)
          (subst P c.in-Ok-true.field-0-test (subst R c.in-Ok-true.is c.answer_next_line-next.ensures.ok)) (ended_at_end left new.lines);
      reads = reads_more g.I.Source.gave g.I.Source.moments c.args.lines.now now.lines new.lines (AnswersArePrompt has first start) result now.invariant.reads call (fewer c.in-Ok-true.field-0-test);
      writes = writes_more (took c.args.writer.now) (took now.writer) (took new.writer) now.invariant.writes c.answer_next_line-next.ensures.writes.writes;
    }

pub returns-in-Ok-false-clause-ok : goal.returns-in-Ok-false-clause-ok
returns-in-Ok-false-clause-ok g c =
    let has = AnswersWhileOpen (g.B.Backend.finished c.args.context.now.backend.now) (g.B.Backend.answers c.args.context.now.backend.now (g.C.Client.gone c.args.context.now.client.now)) in
    let held = g.O.Sink.contents in
    let left = g.I.Source.remaining in
    let now = c.loop in
    let new = c.answer_next_line-next.new in
    let at = run_moment left now.lines (held now.writer) now.buffers.exchange.pending in
    let next = run_moment left new.lines (held new.writer) new.buffers.exchange.pending in
    let P : Bool → Type 0 = λ more. LineRunStep has now.stand c.answer_next_line-next.result.0 at next more in
    let R : Result Bool EngineFault → Type 0 = λ r. IfOk r P in
    finished has c.args.first (stream_moment left c.args.lines.now (held c.args.writer.now)) now.stand at now.invariant.so_far c.answer_next_line-next.result.0 next
    (subst P c.in-Ok-false.field-0-test (subst R c.in-Ok-false.is c.answer_next_line-next.ensures.ok))

pub returns-in-Err-clause-err : goal.returns-in-Err-clause-err
returns-in-Err-clause-err g c =
    let has = AnswersWhileOpen (g.B.Backend.finished c.args.context.now.backend.now) (g.B.Backend.answers c.args.context.now.backend.now (g.C.Client.gone c.args.context.now.client.now)) in
    let held = g.O.Sink.contents in
    let left = g.I.Source.remaining in
    let now = c.loop in
    let new = c.answer_next_line-next.new in
    let at = run_moment left now.lines (held now.writer) now.buffers.exchange.pending in
    let next = run_moment left new.lines (held new.writer) new.buffers.exchange.pending in
    let P : EngineFault → Type 0 = λ fault. LineRunStepFails has fault now.stand at next in
    let R : Result Bool EngineFault → Type 0 = λ r. IfErr r P in
    let Q : Result Bool EngineFault → Type 0 = λ r. CallReads g.I.Source.gave g.I.Source.moments now.lines new.lines (BufferWrittenSince at.left at.held at.pending) r in
    let reads = subst Q c.in-Err.is c.answer_next_line-next.ensures.reads in
    λ holds last gives.
    failed has c.args.first (stream_moment left c.args.lines.now (held c.args.writer.now)) now.stand at now.invariant.so_far next holds c.in-Err.fault last (λ e. (reads.failed e).going)
    (subst R c.in-Err.is c.answer_next_line-next.ensures.err) gives

pub returns-in-Ok-false-clause-reads : goal.returns-in-Ok-false-clause-reads
returns-in-Ok-false-clause-reads g c =
    let gave = g.I.Source.gave in
    let moments = g.I.Source.moments in
    let has = AnswersWhileOpen (g.B.Backend.finished c.args.context.now.backend.now) (g.B.Backend.answers c.args.context.now.backend.now (g.C.Client.gone c.args.context.now.client.now)) in
    let now = c.loop in
    let new = c.answer_next_line-next.new in
    let first = c.args.first in
    let start = stream_moment g.I.Source.remaining c.args.lines.now (g.O.Sink.contents c.args.writer.now) in
    let Is = AnswersArePrompt has first start in
    let at = run_moment g.I.Source.remaining now.lines (g.O.Sink.contents now.writer) now.buffers.exchange.pending in
    let result = c.answer_next_line-next.result.1 in
    let call = reads_prompt gave moments has first start now.stand at now.invariant.so_far now.lines new.lines result refl c.answer_next_line-next.ensures.reads in
    reads_as gave moments c.args.lines.now new.lines Is result (Ok NoMoreLines) tt (reads_then gave moments c.args.lines.now now.lines new.lines Is result now.invariant.reads call)

pub returns-in-Err-clause-reads : goal.returns-in-Err-clause-reads
returns-in-Err-clause-reads g c =
    let gave = g.I.Source.gave in
    let moments = g.I.Source.moments in
    let has = AnswersWhileOpen (g.B.Backend.finished c.args.context.now.backend.now) (g.B.Backend.answers c.args.context.now.backend.now (g.C.Client.gone c.args.context.now.client.now)) in
    let now = c.loop in
    let new = c.answer_next_line-next.new in
    let first = c.args.first in
    let start = stream_moment g.I.Source.remaining c.args.lines.now (g.O.Sink.contents c.args.writer.now) in
    let Is = AnswersArePrompt has first start in
    let at = run_moment g.I.Source.remaining now.lines (g.O.Sink.contents now.writer) now.buffers.exchange.pending in
    let result = c.answer_next_line-next.result.1 in
    let call = reads_prompt gave moments has first start now.stand at now.invariant.so_far now.lines new.lines result refl c.answer_next_line-next.ensures.reads in
    let Q : Result Bool EngineFault → Type 0 = λ r. CallReads gave moments c.args.lines.now new.lines Is r in
    reads_as gave moments c.args.lines.now new.lines Is (Err c.in-Err.fault) (Err c.in-Err.fault) (λ e. e)
    (subst Q c.in-Err.is (reads_then gave moments c.args.lines.now now.lines new.lines Is result now.invariant.reads call))

pub returns-in-Ok-false-clause-writes : goal.returns-in-Ok-false-clause-writes
returns-in-Ok-false-clause-writes g c =
    let took = g.O.Sink.took in
    let now = c.loop.writer in
    let new = c.answer_next_line-next.new.writer in
    let result = c.answer_next_line-next.result.1 in
    writes_as (took c.args.writer.now) (took new) result (Ok NoMoreLines) tt (writes_then (took c.args.writer.now) (took now) (took new) result c.loop.invariant.writes c.answer_next_line-next.ensures.writes)

pub returns-in-Err-clause-writes : goal.returns-in-Err-clause-writes
returns-in-Err-clause-writes g c =
    let took = g.O.Sink.took in
    let now = c.loop.writer in
    let new = c.answer_next_line-next.new.writer in
    let result = c.answer_next_line-next.result.1 in
    let Q : Result Bool EngineFault → Type 0 = λ r. CallWrites (took c.args.writer.now) (took new) r in
    writes_as (took c.args.writer.now) (took new) (Err c.in-Err.fault) (Err c.in-Err.fault) (λ e. e)
    (subst Q c.in-Err.is (writes_then (took c.args.writer.now) (took now) (took new) result c.loop.invariant.writes c.answer_next_line-next.ensures.writes))

pub returns-in-Ok-false-clause-end : goal.returns-in-Ok-false-clause-end
returns-in-Ok-false-clause-end g c =
    let now = c.loop in
    let new = c.answer_next_line-next.new in
    let Q : Result Bool EngineFault → Type 0 = λ r. IfOk r (λ more. more ≡ false → ReaderEnded new.lines) in
    let ends = subst Q c.in-Ok-false.is c.answer_next_line-next.ensures.end in
    λ _. ends c.in-Ok-false.field-0-test

pub returns-then-is_finished-clause-ok : goal.returns-then-is_finished-clause-ok
returns-then-is_finished-clause-ok g c =
    let has = AnswersWhileOpen (g.B.Backend.finished c.args.context.now.backend.now) (g.B.Backend.answers c.args.context.now.backend.now (g.C.Client.gone c.args.context.now.client.now)) in
    let held = g.O.Sink.contents in
    let left = g.I.Source.remaining in
    let now = c.loop in
    let at = run_moment left now.lines (held now.writer) now.buffers.exchange.pending in
    let written = c.write_last_answers-written in
    finished_writes has c.args.first (stream_moment left c.args.lines.now (held c.args.writer.now)) now.stand at now.invariant.so_far (held written.new.writer) written.result written.ensures.finished
    written.ensures.whole

pub returns-then-is_finished-clause-err : goal.returns-then-is_finished-clause-err
returns-then-is_finished-clause-err g c =
    let has = AnswersWhileOpen (g.B.Backend.finished c.args.context.now.backend.now) (g.B.Backend.answers c.args.context.now.backend.now (g.C.Client.gone c.args.context.now.client.now)) in
    let held = g.O.Sink.contents in
    let left = g.I.Source.remaining in
    let now = c.loop in
    let at = run_moment left now.lines (held now.writer) now.buffers.exchange.pending in
    let written = c.write_last_answers-written in
    last_write_failed has c.args.first (stream_moment left c.args.lines.now (held c.args.writer.now)) now.stand at now.invariant.so_far
    (run_moment left now.lines (held written.new.writer) written.new.buffers.exchange.pending) refl written.result written.ensures.kind written.ensures.front

pub returns-then-is_finished-clause-reads : goal.returns-then-is_finished-clause-reads
returns-then-is_finished-clause-reads g c =
    let has = AnswersWhileOpen (g.B.Backend.finished c.args.context.now.backend.now) (g.B.Backend.answers c.args.context.now.backend.now (g.C.Client.gone c.args.context.now.client.now)) in
    let first = c.args.first in
    let start = stream_moment g.I.Source.remaining c.args.lines.now (g.O.Sink.contents c.args.writer.now) in
    let written = c.write_last_answers-written in
    last_reads g.I.Source.gave g.I.Source.moments c.args.lines.now c.loop.lines (AnswersArePrompt has first start) written.result c.loop.invariant.reads written.ensures.kind

pub returns-then-is_finished-clause-writes : goal.returns-then-is_finished-clause-writes
returns-then-is_finished-clause-writes g c =
    let took = g.O.Sink.took in
    let written = c.write_last_answers-written in
    last_writes (took c.args.writer.now) (took c.loop.writer) (took written.new.writer) written.result c.loop.invariant.writes written.ensures.writes written.ensures.broke
