use Rattle.std.proofs.Common.{length}
use Rattle.rme_durable_writes.proofs.Reading.{HasRead}
use Rattle.rme_durable_writes.proofs.found_writes.read_writes.Given as goal

abbrev pub invariant-loop-lines : goal.invariant-loop-lines
invariant-loop-lines l = HasRead l.fn.bytes l.lines.items l.rest l.last.kept l.last.number

abbrev pub decreases-loop-lines : goal.decreases-loop-lines
decreases-loop-lines l = length l.rest
