use Rattle.std.proofs.Common.{codes, string_bytes}
use Rattle.rme_metrics.proofs.Texts.{appends_four}
use Rattle.rme_metrics.specs.Samples.{labelled_family, plain_family}
use Rattle.rme_metrics.specs.declared.family.MetricFamily.TheVariants.{JobsFinished, JobsWithdrawn, FileBytes, Epoch}
use Rattle.rme_metrics.proofs.metrics_text.push_job_families.Goals as goal

pub returns : goal.returns
returns c =
    let told = c.args.state.now in
    let finished = rw c.as_slice-finished.ensures.value at c.in_ok-push_labelled_family.ensures in
    appends_four (string_bytes c.args.out.now) _ _ _ _ (labelled_family JobsFinished (codes "lock") told.jobs_finished.items)
    (plain_family JobsWithdrawn told.jobs_withdrawn) (plain_family FileBytes told.file_bytes)
    (plain_family Epoch told.epoch)
    finished c.in_ok-push_plain_family.ensures c.in_ok-push_plain_family-2.ensures
    c.in_ok-push_plain_family-3.ensures
