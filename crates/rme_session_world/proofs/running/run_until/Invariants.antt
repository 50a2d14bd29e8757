use Rattle.std.proofs.Common.{◌+◌, ◌≤◌}
use Rattle.rme_session_world.specs.WorkerRuns.{IsWorkerUp, RunStepSequence}
use Rattle.rme_world.specs.WorldInvariants.{WorldInvariant}
use Rattle.rme_session_world.proofs.Planning.{RunsOn}
use Rattle.rme_session_world.proofs.Walking.{left_in}
use Rattle.rme_session_world.proofs.running.run_until.Given as goal

-- The worker is up and has made `steps` steps, the plan was ticked before each, and their number is bounded.
abbrev pub invariant-loop-goal : goal.invariant-loop-goal
invariant-loop-goal l =
    IsWorkerUp l.world l.worker × RunStepSequence l.goal l.worker l.fn.world l.steps l.world × RunsOn l.fn.planned l.steps l.countdown × (WorldInvariant l.world → l.steps + left_in l.world l.worker ≤ 599)

abbrev pub decreases-loop-goal : goal.decreases-loop-goal
decreases-loop-goal l = left_in l.world l.worker
