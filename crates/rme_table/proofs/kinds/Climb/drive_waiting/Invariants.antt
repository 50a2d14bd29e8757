-- The worker made its sweeps, and waits with the same job.
use Rattle.std.proofs.Common.{◌≡◌, ◌+◌, ◌≤◌}
use Rattle.rme_table.specs.Calls.{levels_held}
use Rattle.rme_table.specs.Driving.{DriveSteps, SeatStillHasJob, sweeps_left}
use Rattle.rme_table.proofs.kinds.Climb.drive_waiting.Given as goal

abbrev pub invariant-loop-blocked : goal.invariant-loop-blocked
invariant-loop-blocked g l =
    DriveSteps l.initial.service.shape l.initial.climb l.climb (g.C.Chance.tally l.initial.chance) (g.C.Chance.tally l.chance) 0 × SeatStillHasJob l.initial.climb l.climb
    × (l.tries.most ≡ l.initial.tries.most) × (l.tries.blocked ≡ l.blocked)
    × (l.blocked ≤ l.initial.tries.blocked + sweeps_left l.initial.tries) × (l.initial.tries.blocked ≤ l.blocked)
    × (levels_held l.initial.climb.part.private.stage + l.climb.part.steps + l.initial.tries.blocked ≡ l.initial.climb.part.steps + levels_held l.climb.part.private.stage + l.tries.blocked)
    × (l.initial.climb.part.steps + l.tries.blocked ≤ l.climb.part.steps + l.initial.tries.blocked)
