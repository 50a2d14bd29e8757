use Rattle.std.proofs.Common.{ℕ, List, subst}
use Rattle.std.specs.Prelude.{string_bytes}
use Rattle.rme_durable_epochs.specs.EpochStates.{EpochState}
use Rattle.rme_durable_server.specs.ServerHistories.{BeginsEpoch, server_state}
use Rattle.rme_durable_server.proofs.durable_executor.DurableExecutor.build_checkpoint.Goals as goal

pub returns-in-Ok-clause-begins : goal.returns-in-Ok-clause-begins
returns-in-Ok-clause-begins g c =
    let renewed = c.in-Ok.renewed in
    let made = c.in-Ok.ensures in
    let header = made.begins.header in
    let B = λ (old : EpochState) (names : List (List ℕ)). BeginsEpoch names (server_state old) (string_bytes renewed.bytes) (server_state renewed.executor) in
    let begins : B c.self.inside.executor c.args.names.now = record {
      whole = made.begins.whole;
      recovers = made.begins.starts;
      epoch = made.begins.number;
      header = record { past = header.past; begins = header.begins; number = header.number; base = header.base };
      counts = header.counts;
      lives = made.lives;
      same = made.same;
    } in
    subst (λ (old : EpochState). B old g.J.ServerTag.opening.names) c.self.view_is (subst (λ (names : List (List ℕ)). B c.self.inside.executor names) c.requires.names begins)
