use Rattle.std.proofs.Common.{◌≡◌, Err, subst}
use Rattle.rme_line_io.specs.declared.fault.EngineFault.TheVariants.{NoMemory, WriteFailed}
use Rattle.rme_line_engine.specs.Outputs.{LineOutputBytes}
use Rattle.rme_line_engine.specs.EngineStates.{EngineState, nothing_open}
use Rattle.rme_line_io.specs.LineRuns.{AnswersArePrompt, stream_moment}
use Rattle.rme_line_io.specs.StreamCalls.{CallReads}
use Rattle.rme_line_io.proofs.CallLemmas.{no_reads, no_writes}
use Rattle.rme_line_io.proofs.RunLemmas.{failed_first}
use Rattle.rme_line_engine.proofs.run.run_from_empty.Goals as goal

pub returns-in_default-clause-err : goal.returns-in_default-clause-err
returns-in_default-clause-err g c = failed_first (LineOutputBytes c.args.output) nothing_open (stream_moment g.R.Source.remaining c.args.lines.now (g.W.Sink.contents c.args.writer.now))

pub returns-in_default-clause-reads : goal.returns-in_default-clause-reads
returns-in_default-clause-reads g c = no_reads g.R.Source.gave g.R.Source.moments c.args.lines.now _

pub returns-in_default-clause-writes : goal.returns-in_default-clause-writes
returns-in_default-clause-writes g c = no_writes (g.W.Sink.took c.args.writer.now) (Err NoMemory) (λ e. let s : NoMemory ≡ WriteFailed = e in cc)

pub returns-clause-reads : goal.returns-clause-reads
returns-clause-reads g c =
    let start = stream_moment g.R.Source.remaining c.args.lines.now (g.W.Sink.contents c.args.writer.now) in
    let P : EngineState → Type 0 = λ first. CallReads g.R.Source.gave g.R.Source.moments c.args.lines.now c.run_engine.new.lines (AnswersArePrompt (LineOutputBytes c.args.output) first start) c.run_engine.result in
    subst P c.in-Ok.ensures c.run_engine.ensures.reads
