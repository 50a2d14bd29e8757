-- The verdict on the remaining lines is that on all, and their observations complete those of all; the reads of the
-- reader are allowed, for each line that was counted.
use Rattle.std.proofs.Common.{◌+◌, ◌≤◌, []}
use Rattle.rme_line_io.specs.Readers.{SomeReadsMade, bytes_left, most_lines}
use Rattle.rme_line_io.proofs.ReaderLemmas.{CameOn}
use Rattle.rme_line_check.proofs.JudgeLemmas.{Leads}
use Rattle.rme_line_check.proofs.WatchLemmas.{ShownOn}
use Rattle.rme_line_check.proofs.check.judge_lines.Given as goal

abbrev pub invariant-loop-cut : goal.invariant-loop-cut
invariant-loop-cut g l = record {
  leads : Leads l.fn.judge.names l.fn.judge.machine (bytes_left g.R.Source.remaining l.fn.lines) l.judge.names l.judge.machine l.number (bytes_left g.R.Source.remaining l.lines);
  shown : ShownOn g.V.CheckObserver.sees l.fn.judge.names l.fn.judge.machine (bytes_left g.R.Source.remaining l.fn.lines) l.fn.watcher l.judge.names l.judge.machine (bytes_left g.R.Source.remaining l.lines) l.watcher;
  came_on : CameOn l.fn.lines l.lines [];
  reads : SomeReadsMade g.R.Source.gave l.fn.lines l.lines;
  counted : l.number + most_lines l.lines ≤ 2 + most_lines l.fn.lines;
}

abbrev pub decreases-loop-cut : goal.decreases-loop-cut
decreases-loop-cut g l = most_lines l.lines
