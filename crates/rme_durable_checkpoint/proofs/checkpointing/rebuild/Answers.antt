use Rattle.std.proofs.Common.{◌≡◌, ◌+◌, List, ℕ, [], false, length, ap, refl, sym, subst, ◌∙◌}
use Rattle.std.specs.Prelude.{string_bytes}
use Rattle.rme_words.specs.declared.shape.Shape.{Shape}
use Rattle.rme_world.specs.WorldViews.{WorldView}
use Rattle.rme_session_world.specs.ExecutorStates.{ExecutorState}
use Rattle.rme_durable_format.specs.Headers.{header_values}
use Rattle.rme_durable_format.specs.Lives.{RecoversLives}
use Rattle.rme_durable_format.specs.Recovery.{BeginsWithHeader, RecoversWorld}
use Rattle.rme_durable_format.specs.WholeLines.{AreWholeLines}
use Rattle.rme_durable_checkpoint.specs.Checkpoints.{BeginsEpochHeader}
use Rattle.rme_durable_epochs.specs.HeaderBases.{IsHeaderBase}
use Rattle.rme_durable_checkpoint.proofs.checkpointing.rebuild.Goals as goal

pub returns-clause-begins : goal.returns-clause-begins
returns-clause-begins c =
    let bytes = string_bytes c.in_ok-bytes.bytes in
    let past = header_values c.in-Ok.started.header in
    let B = λ (b : List ℕ) (names : List (List ℕ)) (shape : Shape). BeginsWithHeader b names shape past in
    let same_bytes = c.as_bytes.ensures.value in
    let own = c.if-not-same_names.ensures refl in
    let its : c.new-executor.result.executor.world ≡ c.in-Ok.started.world = ap (λ (e : ExecutorState). e.world) c.new-executor.ensures.executor ∙ c.in-Some.ensures.0 in
    let told = subst (λ (b : List ℕ). B b c.in-Ok.started.names c.in-Ok.started.world.shape) same_bytes c.in-Ok.ensures.header in
    let named = subst (λ (n : List (List ℕ)). B bytes n c.in-Ok.started.world.shape) own told in
    let recovers = subst (λ (b : List ℕ). RecoversWorld b c.in-Ok.started.names c.in-Ok.started.world) same_bytes c.in-Ok.ensures.ok in
    let recovers_named = subst (λ (n : List (List ℕ)). RecoversWorld bytes n c.in-Ok.started.world) own recovers in
    let header : BeginsEpochHeader bytes c.args.names.now c.new-executor.result = record {
      past = past;
      begins = subst (λ (w : WorldView). B bytes c.args.names.now w.shape) (sym its) named;
      number = sym c.new-executor.ensures.epoch;
      base = subst (IsHeaderBase past) (sym c.new-executor.ensures.base) c.in_ok-base.ensures;
      counts = subst (λ (l : List ℕ). RecoversLives bytes past.lives l) (sym c.new-executor.ensures.lives) (subst (λ (b : List ℕ). RecoversLives b past.lives c.in-Ok.started.lives.items) same_bytes c.in-Ok.ensures.lives);
    } in
    record {
      starts = subst (λ (w : WorldView). RecoversWorld bytes c.args.names.now w) (sym its) recovers_named;
      whole = subst AreWholeLines c.as_bytes-else-not-same_names.ensures.value (c.if-not-are_whole_lines.ensures refl);
      number = c.new-executor.ensures.epoch ∙ (c.if-not-is_next_epoch.ensures refl ∙ ap (λ (n : ℕ). n + 1) c.epoch.ensures);
      header = header;
      lines = c.new-executor.ensures.lines;
      taken = c.new-executor.ensures.taken ∙ (c.len.ensures ∙ (sym c.as_bytes.ensures.len ∙ ap (λ (b : List ℕ). length b) same_bytes));
      works = c.new-executor.ensures.works;
    }
