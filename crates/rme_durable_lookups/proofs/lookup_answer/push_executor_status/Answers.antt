use Rattle.std.proofs.Common.{◌≡◌, ◌++◌, string_bytes, refl, ap, ◌∙◌}
use Rattle.std.proofs.lemmas.Result.{on_ok_weaker}
use Rattle.rme_durable_lookups.specs.StatusTexts.{StatusState, source_state, status_state, status_text}
use Rattle.rme_durable_lookups.proofs.lookup_answer.push_executor_status.Goals as goal

pub returns : goal.returns
returns c =
    let names = c.args.names.now in
    let notes = c.args.notes.now.workers.now in
    let leader = c.args.notes.now.leader.now in
    let old = string_bytes c.args.out.now in
    let executor = c.args.executor.now in
    let same : source_state c.of.result ≡ status_state executor.epoch executor.base executor.executor.world = rw (c.of.ensures.epoch, c.of.ensures.base, c.of.ensures.world) refl in
    on_ok_weaker c.push_status.result (λ says. (notes, says ∙ ap (λ (state : StatusState). old ++ status_text names leader state notes) same)) c.push_status.ensures
