use Rattle.std.proofs.Common.{sym, subst, ◌∙◌}
use Rattle.rme_words.specs.declared.shape.Shape.{Shape}
use Rattle.rme_words.proofs.Shapes.{same_shape}
use Rattle.rme_process_core.specs.Processes.{NewIsCall}
use Rattle.rme_process_core.proofs.Processes.{new_is_call}
use Rattle.rme_process_abi.proofs.exports.rme_core_new.Goals as goal

pub returns-in-Ok-new-clause-call : goal.returns-in-Ok-new-clause-call
returns-in-Ok-new-clause-call c done shape has =
    let its = c.in-Ok.ensures.numbers in
    let same = same_shape c.in-Ok.shape shape (its.0 ∙ sym has.has_workers) (its.1 ∙ sym has.has_locks) (its.2 ∙ sym has.has_cells) (its.3 ∙ sym has.has_jobs) in
    rw (c.close.ensures.value, c.in-Ok-new.ensures.ok)
    (subst (λ (s : Shape). NewIsCall s c.args.worker c.restarted.result) same (new_is_call c.in-Ok.shape c.args.worker c.restarted.result c.restarted.ensures.restarted))
