use Rattle.rme_process_core.proofs.Processes.{withdraw_is_call}
use Rattle.rme_process_abi.proofs.exports.rme_core_withdraw.Goals as goal

pub returns-clause-call : goal.returns-clause-call
returns-clause-call c = rw (c.close.ensures.value, ← c.open-worker.ensures, ← c.deref_mut.ensures.value) (withdraw_is_call _ _ _ c.withdraw-answer.ensures.withdrew)
