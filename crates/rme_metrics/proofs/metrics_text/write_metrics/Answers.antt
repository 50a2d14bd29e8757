use Rattle.std.proofs.Common.{string_bytes}
use Rattle.rme_metrics.proofs.Texts.{appends_three}
use Rattle.rme_metrics.specs.Metrics.{families_of_log, families_of_sessions, families_of_state}
use Rattle.rme_metrics.proofs.metrics_text.write_metrics.Goals as goal

pub returns : goal.returns
returns c =
    let told = c.args.snapshot.now in
    appends_three (string_bytes c.args.out.now) _ _ _ (families_of_sessions told.sessions) (families_of_log told.log)
    (families_of_state told.state) c.in_ok-push_families_of_sessions.ensures c.in_ok-push_families_of_log.ensures
    c.in_ok-push_families_of_state.ensures
