use Rattle.std.proofs.Common.{refl}
use Rattle.rme_session_threads.proofs.Telling.{stays_driven}
use Rattle.rme_session_threads.proofs.work.driven_result.Goals as goal

pub returns-in-Done-clause-result : goal.returns-in-Done-clause-result
returns-in-Done-clause-result c = rw c.in-Done.is (0, 0, refl)

pub returns-in-Waits-clause-result : goal.returns-in-Waits-clause-result
returns-in-Waits-clause-result c = rw c.in-Waits.is (0, 0, refl)

pub returns-in-Fell-clause-result : goal.returns-in-Fell-clause-result
returns-in-Fell-clause-result c = rw c.in-Fell.is (0, 0, refl)

pub returns-in-Stopped-clause-result : goal.returns-in-Stopped-clause-result
returns-in-Stopped-clause-result c =
    rw c.in-Stopped.is (stays_driven c.in-Stopped.held c.stay_inside.result.0 c.stay_inside.result.1 c.stay_inside.ensures.stays)
