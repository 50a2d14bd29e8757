-- The texts of metrics: those of what a server tells at some moment.
use Rattle.std.specs.Prelude.{◌≡◌, ℕ, List}
use Rattle.rme_metrics.specs.Metrics.{metrics_text}
use Rattle.rme_metrics.specs.declared.snapshot.MetricsSnapshot.{MetricsSnapshot}

abbrev pub IsMetricsText : List ℕ → Type 0
IsMetricsText text = (told : MetricsSnapshot) × (text ≡ metrics_text told)
