use Rattle.std.specs.Prelude.{◌-◌}
use Rattle.rme_service_phases.proofs.Ascents.{Ascending}
use Rattle.rme_service_phases.proofs.climbing.climb.Given as goal

abbrev pub invariant-loop-level : goal.invariant-loop-level
invariant-loop-level g l = Ascending l.service l.fn.seat (g.C.Chance.tally l.fn.chance) l.lock l.held l.seat (g.C.Chance.tally l.chance) l.level

abbrev pub decreases-loop-level : goal.decreases-loop-level
decreases-loop-level g l = l.shape.height - l.level
