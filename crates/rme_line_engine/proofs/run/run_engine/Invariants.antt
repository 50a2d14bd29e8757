-- The bytes of the earlier lines were written, except the buffered ones, and the other lines are left; the reads of the
-- reader are allowed, and each came after the bytes of all earlier lines.
use Rattle.rme_line_io.specs.Readers.{most_lines}
use Rattle.rme_line_io.specs.LineRuns.{AnswersArePrompt, run_moment, stream_moment}
use Rattle.rme_line_io.specs.StreamEvents.{WritesMade}
use Rattle.rme_line_engine.specs.Engines.{engine_state_of}
use Rattle.rme_line_engine.specs.Outputs.{LineOutputBytes}
use Rattle.rme_line_io.proofs.CallLemmas.{ReadsSoFar}
use Rattle.rme_line_io.proofs.RunLemmas.{SoFar}
use Rattle.rme_line_engine.proofs.run.run_engine.Given as goal

abbrev pub invariant-loop-buffers : goal.invariant-loop-buffers
invariant-loop-buffers g l = record {
  so_far : SoFar (LineOutputBytes l.fn.output) (engine_state_of l.fn.engine) (stream_moment g.R.Source.remaining l.fn.lines (g.W.Sink.contents l.fn.writer)) (engine_state_of l.engine)
      (run_moment g.R.Source.remaining l.lines (g.W.Sink.contents l.writer) l.buffers.exchange.pending);
  reads : ReadsSoFar g.R.Source.gave g.R.Source.moments l.fn.lines l.lines
      (AnswersArePrompt (LineOutputBytes l.fn.output) (engine_state_of l.fn.engine) (stream_moment g.R.Source.remaining l.fn.lines (g.W.Sink.contents l.fn.writer)));
  writes : WritesMade (g.W.Sink.took l.fn.writer) (g.W.Sink.took l.writer);
}

abbrev pub decreases-loop-buffers : goal.decreases-loop-buffers
decreases-loop-buffers g l = most_lines l.lines
