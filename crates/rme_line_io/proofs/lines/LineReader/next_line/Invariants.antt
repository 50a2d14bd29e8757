-- The initial bytes are the part seen of the line followed by those left; the number of reads is within that of one
-- line.
use Rattle.rme_line_io.specs.Readers.{NoNewlineSince, SomeReadsMade, ReadsMadeAt, bytes_left, most_lines}
use Rattle.rme_line_io.proofs.PieceLemmas.{Saw}
use Rattle.rme_line_io.proofs.ReaderLemmas.{CameOn}
use Rattle.rme_line_io.proofs.lines.LineReader.next_line.Given as goal

abbrev pub invariant-loop-line : goal.invariant-loop-line
invariant-loop-line g l = record {
  saw : Saw 65537 (bytes_left g.R.Source.remaining l.fn.self) (bytes_left g.R.Source.remaining l.self) l.line.items;
  came_on : CameOn l.fn.self l.self l.line.items;
  asks : SomeReadsMade g.R.Source.gave l.fn.self l.self;
  shown : ReadsMadeAt g.R.Source.moments l.fn.self l.self (NoNewlineSince (bytes_left g.R.Source.remaining l.fn.self) (g.W.Sink.contents l.fn.writer));
}

abbrev pub decreases-loop-line : goal.decreases-loop-line
decreases-loop-line g l = most_lines l.self
