use Rattle.std.proofs.Common.{◌≡◌, Bool, Ok, Err, refl, subst}
use Rattle.rme_line_io.proofs.ReaderLemmas.{ended_at_end}
use Rattle.rme_line_io.specs.declared.fault.EngineFault.TheVariants.{NoMemory, WriteFailed}
use Rattle.rme_line_engine.specs.Engines.{engine_state_of}
use Rattle.rme_line_engine.specs.Outputs.{LineOutputBytes}
use Rattle.rme_line_io.specs.LineRuns.{AnswersArePrompt, LineRunStep, run_moment, stream_moment}
use Rattle.rme_line_io.proofs.RunLemmas.{failed, failed_first, finished, so_far_first, so_far_more}
use Rattle.rme_line_io.proofs.CallLemmas.{no_reads, no_writes, reads_as, reads_first, reads_more, reads_prompt, reads_then, writes_as, writes_given_up, writes_then}
use Rattle.rme_line_io.proofs.TrafficLemmas.{writes_more, writes_none}
use Rattle.rme_line_engine.proofs.run.run_engine.Goals as goal

pub returns-in_default-clause-err : goal.returns-in_default-clause-err
returns-in_default-clause-err g c = failed_first (LineOutputBytes c.args.output) (engine_state_of c.args.engine.now) (stream_moment g.R.Source.remaining c.args.lines.now (g.W.Sink.contents c.args.writer.now))

pub returns-in_default-new-clause-err : goal.returns-in_default-new-clause-err
returns-in_default-new-clause-err g c = failed_first (LineOutputBytes c.args.output) (engine_state_of c.args.engine.now) (stream_moment g.R.Source.remaining c.args.lines.now (g.W.Sink.contents c.args.writer.now))

pub returns-in_default-clause-reads : goal.returns-in_default-clause-reads
returns-in_default-clause-reads g c = no_reads g.R.Source.gave g.R.Source.moments c.args.lines.now _

pub returns-in_default-clause-writes : goal.returns-in_default-clause-writes
returns-in_default-clause-writes g c = no_writes (g.W.Sink.took c.args.writer.now) (Err NoMemory) (λ e. let s : NoMemory ≡ WriteFailed = e in cc)

pub returns-in_default-new-clause-reads : goal.returns-in_default-new-clause-reads
returns-in_default-new-clause-reads g c = no_reads g.R.Source.gave g.R.Source.moments c.args.lines.now _

pub returns-in_default-new-clause-writes : goal.returns-in_default-new-clause-writes
returns-in_default-new-clause-writes g c = no_writes (g.W.Sink.took c.args.writer.now) (Err NoMemory) (λ e. let s : NoMemory ≡ WriteFailed = e in cc)

pub loop-buffers-init : goal.loop-buffers-init
loop-buffers-init g c =
    let start = stream_moment g.R.Source.remaining c.args.lines.now (g.W.Sink.contents c.args.writer.now) in
    let first = engine_state_of c.args.engine.now in record {
      so_far = so_far_first (LineOutputBytes c.args.output) start c.args.lines.now.ended first first c.in-Ok-new.exchange.pending refl c.in-Ok-new.ensures (ended_at_end g.R.Source.remaining c.args.lines.now);
      reads = reads_first g.R.Source.gave g.R.Source.moments c.args.lines.now (AnswersArePrompt (LineOutputBytes c.args.output) first start);
      writes = writes_none (g.W.Sink.took c.args.writer.now);
    }

pub loop-buffers-preserved : goal.loop-buffers-preserved
loop-buffers-preserved g c =
    let has = LineOutputBytes c.args.output in
    let held = g.W.Sink.contents in
    let left = g.R.Source.remaining in
    let took = g.W.Sink.took in
    let now = c.loop-buffers in
    let new = c.process_next_line.new in
    let start = stream_moment left c.args.lines.now (held c.args.writer.now) in
    let first = engine_state_of c.args.engine.now in
    let at = run_moment left now.lines (held now.writer) now.buffers.exchange.pending in
    let next = run_moment left new.lines (held new.writer) new.buffers.exchange.pending in
    let P : Bool → Type 0 = λ more. LineRunStep has (engine_state_of now.engine) (engine_state_of new.engine) at next more in
    let call = reads_prompt g.R.Source.gave g.R.Source.moments has first start (engine_state_of now.engine) at now.invariant.so_far now.lines new.lines _ refl c.in-Ok-true.ensures.reads in record {
      so_far = so_far_more has first start (engine_state_of now.engine) at now.invariant.so_far (engine_state_of new.engine) next (λ e. (c.in-Ok-true.ensures.reads.ended e).ended)
          (subst P c.in-Ok-true.field-0-test c.in-Ok-true.ensures.ok) (ended_at_end left new.lines);
      reads = reads_more g.R.Source.gave g.R.Source.moments c.args.lines.now now.lines new.lines (AnswersArePrompt has first start) _ now.invariant.reads call (c.in-Ok-true.ensures.fewer c.in-Ok-true.field-0-test);
      writes = writes_more (took c.args.writer.now) (took now.writer) (took new.writer) now.invariant.writes c.in-Ok-true.ensures.writes.writes;
    }

pub returns-in-Ok-false-clause-ok : goal.returns-in-Ok-false-clause-ok
returns-in-Ok-false-clause-ok g c =
    let has = LineOutputBytes c.args.output in
    let held = g.W.Sink.contents in
    let left = g.R.Source.remaining in
    let now = c.loop-buffers in
    let new = c.process_next_line.new in
    let at = run_moment left now.lines (held now.writer) now.buffers.exchange.pending in
    let next = run_moment left new.lines (held new.writer) new.buffers.exchange.pending in
    let P : Bool → Type 0 = λ more. LineRunStep has (engine_state_of now.engine) (engine_state_of new.engine) at next more in
    finished has (engine_state_of c.args.engine.now) (stream_moment left c.args.lines.now (held c.args.writer.now)) (engine_state_of now.engine) at now.invariant.so_far (engine_state_of new.engine) next
    (subst P c.in-Ok-false.field-0-test c.in-Ok-false.ensures.ok)

pub returns-in-Err-clause-err : goal.returns-in-Err-clause-err
returns-in-Err-clause-err g c =
    let held = g.W.Sink.contents in
    let left = g.R.Source.remaining in
    let now = c.loop-buffers in
    let new = c.process_next_line.new in
    failed (LineOutputBytes c.args.output) (engine_state_of c.args.engine.now) (stream_moment left c.args.lines.now (held c.args.writer.now)) (engine_state_of now.engine)
    (run_moment left now.lines (held now.writer) now.buffers.exchange.pending) now.invariant.so_far (run_moment left new.lines (held new.writer) new.buffers.exchange.pending) (held c.give_up.new.writer)
    c.in-Err.fault c.give_up.result (λ e. (c.in-Err.ensures.reads.failed e).going) c.in-Err.ensures.err c.give_up.ensures.gives_up

pub returns-in-Ok-false-clause-reads : goal.returns-in-Ok-false-clause-reads
returns-in-Ok-false-clause-reads g c =
    let gave = g.R.Source.gave in
    let moments = g.R.Source.moments in
    let now = c.loop-buffers in
    let new = c.process_next_line.new in
    let has = LineOutputBytes c.args.output in
    let first = engine_state_of c.args.engine.now in
    let start = stream_moment g.R.Source.remaining c.args.lines.now (g.W.Sink.contents c.args.writer.now) in
    let Is = AnswersArePrompt has first start in
    let at = run_moment g.R.Source.remaining now.lines (g.W.Sink.contents now.writer) now.buffers.exchange.pending in
    let call = reads_prompt gave moments has first start (engine_state_of now.engine) at now.invariant.so_far now.lines new.lines _ refl c.in-Ok-false.ensures.reads in
    reads_as gave moments c.args.lines.now new.lines Is _ (Ok tt) tt (reads_then gave moments c.args.lines.now now.lines new.lines Is _ now.invariant.reads call)

pub returns-in-Err-clause-reads : goal.returns-in-Err-clause-reads
returns-in-Err-clause-reads g c =
    let gave = g.R.Source.gave in
    let moments = g.R.Source.moments in
    let now = c.loop-buffers in
    let new = c.process_next_line.new in
    let has = LineOutputBytes c.args.output in
    let first = engine_state_of c.args.engine.now in
    let start = stream_moment g.R.Source.remaining c.args.lines.now (g.W.Sink.contents c.args.writer.now) in
    let Is = AnswersArePrompt has first start in
    let at = run_moment g.R.Source.remaining now.lines (g.W.Sink.contents now.writer) now.buffers.exchange.pending in
    let call = reads_prompt gave moments has first start (engine_state_of now.engine) at now.invariant.so_far now.lines new.lines _ refl c.in-Err.ensures.reads in
    reads_as gave moments c.args.lines.now new.lines Is (Err c.in-Err.fault) (Err c.give_up.result) c.give_up.ensures.read (reads_then gave moments c.args.lines.now now.lines new.lines Is _ now.invariant.reads call)

pub returns-in-Ok-false-clause-writes : goal.returns-in-Ok-false-clause-writes
returns-in-Ok-false-clause-writes g c =
    let took = g.W.Sink.took in
    let now = c.loop-buffers in
    let new = c.process_next_line.new in
    writes_as (took c.args.writer.now) (took new.writer) _ (Ok tt) tt (writes_then (took c.args.writer.now) (took now.writer) (took new.writer) _ now.invariant.writes c.in-Ok-false.ensures.writes)

pub returns-in-Err-clause-writes : goal.returns-in-Err-clause-writes
returns-in-Err-clause-writes g c =
    let took = g.W.Sink.took in
    let now = c.loop-buffers in
    let new = c.process_next_line.new in
    writes_given_up took c.args.writer.now new.writer c.give_up.new.writer c.in-Err.fault c.give_up.result
    (writes_then (took c.args.writer.now) (took now.writer) (took new.writer) (Err c.in-Err.fault) now.invariant.writes c.in-Err.ensures.writes) c.give_up.ensures.writes c.give_up.ensures.kept c.give_up.ensures.broke
