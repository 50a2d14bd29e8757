use Rattle.std.proofs.Common.{◌++◌, List, ℕ, ap, ◌∙◌}
use Rattle.rme_metrics.specs.Metrics.{metrics_text}
use Rattle.rme_metrics.specs.declared.snapshot.MetricsSnapshot.{MetricsSnapshot}
use Rattle.rme_cli_listen.proofs.state_metrics.metrics_of.Goals as goal

pub returns : goal.returns
returns c =
    let told : MetricsSnapshot = record { sessions = c.args.sessions; log = c.args.log; state = c.args.state } in (
      told,
      c.in_ok-write_metrics.ensures ∙ ap (λ (bytes : List ℕ). bytes ++ metrics_text told) c.new-out.ensures.bytes,
    )
