use Rattle.rme_session_threads.proofs.Taking.{ends_earlier, one_of_slots}
use Rattle.rme_session_threads.proofs.worker_slot.begin_life.Goals as goal

pub returns-clause-take : goal.returns-clause-take
returns-clause-take g c = one_of_slots _ _ _ _ _ _ c.take.ensures.taken c.take.ensures.counts c.take.ensures.refused

pub returns-clause-ends : goal.returns-clause-ends
returns-clause-ends g c = ends_earlier _ _ _ _ c.take.ensures.counts
