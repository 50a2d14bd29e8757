use Rattle.rme_replica.specs.EngineLogs.{KeepsHead}
use Rattle.rme_replica.proofs.tries.ask_repeatedly.Given as goal

abbrev pub invariant-loop : goal.invariant-loop
invariant-loop g l = KeepsHead l.seen (g.E.LogEngine.log l.fn.engine) (g.E.LogEngine.log l.engine)
