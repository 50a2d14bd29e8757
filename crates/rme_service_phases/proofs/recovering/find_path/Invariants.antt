use Rattle.std.specs.Prelude.{◌-◌}
use Rattle.rme_service_phases.proofs.Lookups.{Looking}
use Rattle.rme_service_phases.proofs.recovering.find_path.Given as goal

abbrev pub invariant-loop-held : goal.invariant-loop-held
invariant-loop-held g l = Looking l.service l.fn.seat (g.C.Chance.tally l.fn.chance) l.lock l.pending l.seat (g.C.Chance.tally l.chance) l.held

abbrev pub decreases-loop-held : goal.decreases-loop-held
decreases-loop-held g l = l.shape.height - l.held
