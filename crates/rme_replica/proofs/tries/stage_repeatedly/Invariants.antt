use Rattle.rme_replica.specs.EngineLogs.{LosesPart}
use Rattle.rme_replica.proofs.tries.stage_repeatedly.Given as goal

abbrev pub invariant-loop : goal.invariant-loop
invariant-loop g l = LosesPart l.seen l.part l.bytes (g.E.LogEngine.log l.fn.engine) (g.E.LogEngine.log l.engine)
