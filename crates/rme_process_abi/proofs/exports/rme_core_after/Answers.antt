use Rattle.rme_process_core.proofs.Processes.{after_is_call}
use Rattle.rme_process_abi.proofs.exports.rme_core_after.Goals as goal

pub returns-clause-call : goal.returns-clause-call
returns-clause-call c = rw (c.close.ensures.value, ← c.open-worker.ensures, ← c.deref_mut.ensures.value) (after_is_call _ _ _ _ _ _ _ c.accept_values-answer.ensures.took)
