use Rattle.rme_process_core.specs.Calls.{submitted_slate}
use Rattle.rme_process_core.proofs.Processes.{submit_is_call}
use Rattle.rme_process_abi.proofs.exports.rme_core_submit.Goals as goal

pub returns-clause-call : goal.returns-clause-call
returns-clause-call c =
    rw (c.close.ensures.value, ← c.open-worker.ensures, ← c.deref_mut.ensures.value)
    (submit_is_call c.deref_mut.result.now c.post-answer.new.self c.args.number.now c.post-answer.new.number (submitted_slate c.args.lock c.args.operations c.args.words.now)
    (rw (c.deref_mut.ensures.value, c.open-worker.ensures) c.requires.worker) c.post-answer.result c.post-answer.ensures.posted)
