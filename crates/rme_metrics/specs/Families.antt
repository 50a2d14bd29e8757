-- The families of metrics: their names, their helps, and their types.
use Rattle.std.specs.Prelude.{ℕ, List, codes}
use Rattle.rme_metrics.specs.declared.family.MetricFamily.{MetricFamily}
use Rattle.rme_metrics.specs.declared.family.MetricFamily.TheVariants.{SessionsOpen, SessionsBegun, SessionsWaiting, Orders, Refusals, OrderSeconds, WriteSeconds, Checkpoints, CheckpointSeconds, JobsFinished, JobsWithdrawn, FileBytes, Epoch, Workers, OwnersDown}
use Rattle.rme_metrics.specs.declared.family.MetricKind.{MetricKind}
use Rattle.rme_metrics.specs.declared.family.MetricKind.TheVariants.{Counter, Gauge, Histogram}

abbrev pub metric_kind_word : MetricKind → List ℕ
metric_kind_word Counter = codes "counter"
metric_kind_word Gauge = codes "gauge"
metric_kind_word Histogram = codes "histogram"

abbrev pub family_name : MetricFamily → List ℕ
family_name SessionsOpen = codes "rme_sessions_open"
family_name SessionsBegun = codes "rme_sessions_total"
family_name SessionsWaiting = codes "rme_sessions_waiting"
family_name Orders = codes "rme_orders_total"
family_name Refusals = codes "rme_refusals_total"
family_name OrderSeconds = codes "rme_order_seconds"
family_name WriteSeconds = codes "rme_log_write_seconds"
family_name Checkpoints = codes "rme_checkpoints_total"
family_name CheckpointSeconds = codes "rme_checkpoint_seconds_total"
family_name JobsFinished = codes "rme_jobs_finished_total"
family_name JobsWithdrawn = codes "rme_jobs_withdrawn_total"
family_name FileBytes = codes "rme_state_bytes"
family_name Epoch = codes "rme_epoch"
family_name Workers = codes "rme_workers"
family_name OwnersDown = codes "rme_owners_down"

abbrev pub family_kind : MetricFamily → MetricKind
family_kind SessionsOpen = Gauge
family_kind SessionsBegun = Counter
family_kind SessionsWaiting = Gauge
family_kind Orders = Counter
family_kind Refusals = Counter
family_kind OrderSeconds = Histogram
family_kind WriteSeconds = Histogram
family_kind Checkpoints = Counter
family_kind CheckpointSeconds = Counter
family_kind JobsFinished = Counter
family_kind JobsWithdrawn = Counter
family_kind FileBytes = Gauge
family_kind Epoch = Gauge
family_kind Workers = Gauge
family_kind OwnersDown = Gauge

abbrev pub family_help : MetricFamily → List ℕ
family_help SessionsOpen = codes "Sessions that are open."
family_help SessionsBegun = codes "Sessions that began."
family_help SessionsWaiting = codes "Sessions whose last line is not answered yet."
family_help Orders = codes "Orders that were answered, and not refused, by their kind."
family_help Refusals = codes "Lines that were refused, by the name of the refusal."
family_help OrderSeconds = codes "Seconds from a line of a session to its answer."
family_help WriteSeconds = codes "Seconds of a write to a log, with its sync."
family_help Checkpoints = codes "Checkpoints that this server made."
family_help CheckpointSeconds = codes "Seconds that the checkpoints took."
family_help JobsFinished = codes "Jobs that were finished, by their lock."
family_help JobsWithdrawn = codes "Jobs that were withdrawn."
family_help FileBytes = codes "Bytes of the state's file."
family_help Epoch = codes "The number of the state's epoch."
family_help Workers = codes "Workers, by their stance."
family_help OwnersDown = codes "Workers that own a lock while no session has them."
