-- The writer took the bytes before the index, with one write for each iteration.
use Rattle.std.proofs.Common.{◌≤◌, length, take}
use Rattle.std.specs.Io.KnownBytes.{Appends}
use Rattle.rme_line_io.proofs.TrafficLemmas.{Wrote}
use Rattle.rme_line_io.proofs.put.put_all.Given as goal

abbrev pub invariant-loop : goal.invariant-loop
invariant-loop g l = record {
  within : l.at ≤ length l.bytes;
  written : Appends (g.W.Sink.contents l.fn.writer) (g.W.Sink.contents l.writer) (take l.at l.bytes);
  wrote : Wrote (g.W.Sink.took l.fn.writer) (g.W.Sink.took l.writer) l.counter;
}
