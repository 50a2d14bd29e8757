use Rattle.rme_session_world.proofs.Answering.{detached}
use Rattle.rme_session_world.proofs.orders.detach.Goals as goal

pub returns-clause-carries : goal.returns-clause-carries
returns-clause-carries c planned = detached c.args.world.now c.crash_worker.new.world c.args.worker planned c.recall_invariant.ensures c.requires.rests c.crash_worker.ensures.crashed
