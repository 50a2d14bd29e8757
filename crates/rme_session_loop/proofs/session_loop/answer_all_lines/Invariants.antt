-- The answers to the earlier lines were written or are buffered, and the other lines are left; the session's state may
-- be so; each read of the reader came after the answers to all earlier lines were written.
use Rattle.rme_line_io.specs.LineRuns.{AnswersArePrompt, run_moment, stream_moment}
use Rattle.rme_line_io.specs.StreamEvents.{WritesMade}
use Rattle.rme_line_io.proofs.CallLemmas.{ReadsSoFar}
use Rattle.rme_line_io.proofs.RunLemmas.{SoFar}
use Rattle.rme_session_loop.specs.SessionRuns.{AnswersWhileOpen}
use Rattle.rme_session_loop.proofs.session_loop.answer_all_lines.Given as goal

abbrev pub invariant-loop : goal.invariant-loop
invariant-loop g l = record {
  may_hold : g.B.Backend.may_hold l.context.backend.now l.stand;
  so_far : SoFar (AnswersWhileOpen (g.B.Backend.finished l.fn.context.backend.now)
      (g.B.Backend.answers l.fn.context.backend.now (g.C.Client.gone l.fn.context.client.now))) l.fn.first
      (stream_moment g.I.Source.remaining l.fn.lines (g.O.Sink.contents l.fn.writer)) l.stand
      (run_moment g.I.Source.remaining l.lines (g.O.Sink.contents l.writer) l.buffers.exchange.pending);
  reads : ReadsSoFar g.I.Source.gave g.I.Source.moments l.fn.lines l.lines
      (AnswersArePrompt (AnswersWhileOpen (g.B.Backend.finished l.fn.context.backend.now) (g.B.Backend.answers l.fn.context.backend.now (g.C.Client.gone l.fn.context.client.now))) l.fn.first (stream_moment g.I.Source.remaining l.fn.lines (g.O.Sink.contents l.fn.writer)));
  writes : WritesMade (g.O.Sink.took l.fn.writer) (g.O.Sink.took l.writer);
}
