use Rattle.std.proofs.Common.{string_bytes}
use Rattle.rme_metrics.proofs.Texts.{appends_three}
use Rattle.rme_metrics.specs.Samples.{histogram_family, plain_family, seconds_family}
use Rattle.rme_metrics.specs.declared.family.MetricFamily.TheVariants.{WriteSeconds, Checkpoints, CheckpointSeconds}
use Rattle.rme_metrics.proofs.metrics_text.push_log_families.Goals as goal

pub returns : goal.returns
returns c =
    let told = c.args.log.now in
    appends_three (string_bytes c.args.out.now) _ _ _ (histogram_family WriteSeconds told.write_times)
    (plain_family Checkpoints told.checkpoints) (seconds_family CheckpointSeconds told.checkpoint_micros)
    c.in_ok-push_histogram_family.ensures c.in_ok-push_plain_family.ensures c.in_ok-push_seconds_family.ensures
