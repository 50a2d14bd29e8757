use Rattle.rme_service_phases.proofs.Clearing.{Clearing}
use Rattle.rme_service_phases.proofs.leaving.clear.Given as goal

abbrev pub invariant-loop-level : goal.invariant-loop-level
invariant-loop-level g l = Clearing l.service l.fn.seat (g.C.Chance.tally l.fn.chance) l.lock l.levels l.seat (g.C.Chance.tally l.chance) l.level

abbrev pub decreases-loop-level : goal.decreases-loop-level
decreases-loop-level g l = l.level
