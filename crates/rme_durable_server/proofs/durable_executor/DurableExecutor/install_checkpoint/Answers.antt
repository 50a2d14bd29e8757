use Rattle.std.proofs.Common.{◌≡◌, ◌++◌, ◌∷◌, [], ℕ, List, ap, sym, subst, ◌∙◌}
use Rattle.std.specs.Prelude.{Bool, MatchBool, string_bytes}
use Rattle.rme_durable_epochs.specs.EpochStates.{EpochState}
use Rattle.rme_durable_log.specs.declared.log_entry.LogEntry.TheVariants.{Whole}
use Rattle.rme_durable_server.specs.ServerHistories.{BeginsEpoch, server_state}
use Rattle.rme_durable_server.proofs.Leading.{logged_epoch, logged_some}
use Rattle.rme_durable_server.proofs.durable_executor.DurableExecutor.install_checkpoint.Goals as goal

pub invariant_of-self-in-Ok-default-true : goal.invariant_of-self-in-Ok-default-true
invariant_of-self-in-Ok-default-true g c =
    let opening = g.J.ServerTag.opening in
    let epoch = c.self.inside.executor in
    let appender = c.in-Some.appender in
    let renewed = c.args.renewed in
    let logged = logged_some opening c.self.inside.appender appender epoch (sym c.take.ensures.value ∙ c.in-Some.is) c.self.invariant in
    let B = λ (old : EpochState). BeginsEpoch opening.names (server_state old) (string_bytes renewed.bytes) (server_state renewed.executor) in
    let told = subst (λ (is_new : Bool). MatchBool is_new ((c.replace.new.appender.log ≡ appender.log ++ Whole c.as_bytes.result.now ∷ []) × (c.replace.new.appender.waits ≡ [])) (c.replace.new.appender ≡ appender)) c.in-Ok-default-true.field-0-1-test c.in-Ok-default-true.ensures.told in
    logged_epoch opening epoch renewed.executor appender.log c.replace.new.appender.log appender.waits c.replace.new.appender.waits (string_bytes renewed.bytes) logged (subst B (sym c.self.view_is) c.requires.begins)
    (told.0 ∙ ap (λ (bytes : List ℕ). appender.log ++ Whole bytes ∷ []) c.as_bytes.ensures.value) told.1 c.requires.lines
