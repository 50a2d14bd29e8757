-- The workers so far are in place.
use Rattle.rme_session_world.proofs.Places.{AreInPlace}
use Rattle.rme_session_world.proofs.at_rest.are_workers_in_place.Given as goal

abbrev pub invariant-loop-worker : goal.invariant-loop-worker
invariant-loop-worker l = AreInPlace l.fn.world l.fn.holders l.worker
