use Rattle.rme_replica.specs.EngineLogs.{LosesAdd}
use Rattle.rme_replica.proofs.tries.add_repeatedly.Given as goal

abbrev pub invariant-loop : goal.invariant-loop
invariant-loop g l = LosesAdd l.seen l.next l.lines (g.E.LogEngine.log l.fn.engine) (g.E.LogEngine.log l.engine)
