use Rattle.rme_process_core.proofs.Processes.{restart_is_call}
use Rattle.rme_process_abi.proofs.exports.rme_core_restart.Goals as goal

pub returns-clause-call : goal.returns-clause-call
returns-clause-call c = rw (c.close.ensures.value, ← c.open-worker.ensures, ← c.deref_mut.ensures.value) (restart_is_call _ _ c.restart.ensures.restarted)
