-- What the lines of the remaining workers append to the text now is what all lines append.
use Rattle.std.specs.Prelude.{string_bytes}
use Rattle.rme_durable_format.proofs.Falling.{FallsOn}
use Rattle.rme_durable_format.proofs.batch_lines.append_crashes.Given as goal

abbrev pub invariant-loop-worker : goal.invariant-loop-worker
invariant-loop-worker l = record { on : FallsOn l.names (string_bytes l.fn.out) l.fn.world.privates l.worker (string_bytes l.out) }
