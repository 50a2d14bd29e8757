-- THE TEXT OF A SERVER'S METRICS: its families, each once, in this order. `Families.antt` has their names.
use Rattle.std.specs.Prelude.{ℕ, List, [], ◌++◌, Option, Some, None, codes}
use Rattle.rme_metrics.specs.Samples.{histogram_family, labelled_family, plain_family, seconds_family}
use Rattle.rme_metrics.specs.declared.family.MetricFamily.TheVariants.{SessionsOpen, SessionsBegun, SessionsWaiting, Orders, Refusals, OrderSeconds, WriteSeconds, Checkpoints, CheckpointSeconds, JobsFinished, JobsWithdrawn, FileBytes, Epoch, Workers, OwnersDown}
use Rattle.rme_metrics.specs.declared.snapshot.LogMetrics.{LogMetrics}
use Rattle.rme_metrics.specs.declared.snapshot.MetricsSnapshot.{MetricsSnapshot}
use Rattle.rme_metrics.specs.declared.snapshot.SessionMetrics.{SessionMetrics}
use Rattle.rme_metrics.specs.declared.snapshot.StateMetrics.{StateMetrics}

-- The families of sessions, of their lines, and of the times of these.
abbrev pub session_families : SessionMetrics → List ℕ
session_families told =
    plain_family SessionsOpen told.open
    ++ (plain_family SessionsBegun told.begun
    ++ (plain_family SessionsWaiting told.waiting
    ++ (labelled_family Orders (codes "kind") told.orders.items
    ++ (labelled_family Refusals (codes "name") told.refusals.items
    ++ histogram_family OrderSeconds told.order_times))))

abbrev pub families_of_sessions : Option SessionMetrics → List ℕ
families_of_sessions None = []
families_of_sessions (Some told) = session_families told

-- The families of logs.
abbrev pub log_families : LogMetrics → List ℕ
log_families told =
    histogram_family WriteSeconds told.write_times
    ++ (plain_family Checkpoints told.checkpoints ++ seconds_family CheckpointSeconds told.checkpoint_micros)

abbrev pub families_of_log : Option LogMetrics → List ℕ
families_of_log None = []
families_of_log (Some told) = log_families told

-- The families of the jobs of a state, and of its file.
abbrev pub job_families : StateMetrics → List ℕ
job_families told =
    labelled_family JobsFinished (codes "lock") told.jobs_finished.items
    ++ (plain_family JobsWithdrawn told.jobs_withdrawn
    ++ (plain_family FileBytes told.file_bytes ++ plain_family Epoch told.epoch))

-- The families of a state.
abbrev pub state_families : StateMetrics → List ℕ
state_families told =
    job_families told
    ++ (labelled_family Workers (codes "stance") told.workers.items ++ plain_family OwnersDown told.owners_down)

abbrev pub families_of_state : Option StateMetrics → List ℕ
families_of_state None = []
families_of_state (Some told) = state_families told

-- All families that the snapshot tells of.
abbrev pub metrics_text : MetricsSnapshot → List ℕ
metrics_text told = families_of_sessions told.sessions ++ (families_of_log told.log ++ families_of_state told.state)
