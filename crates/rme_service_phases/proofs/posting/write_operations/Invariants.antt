use Rattle.rme_service_phases.proofs.Writing.{Writing}
use Rattle.rme_service_phases.proofs.posting.write_operations.Given as goal

abbrev pub invariant-loop-i : goal.invariant-loop-i
invariant-loop-i g l = Writing l.service l.fn.seat (g.C.Chance.tally l.fn.chance) l.job l.seat (g.C.Chance.tally l.chance) l.i
