use Rattle.std.proofs.Common.{codes, string_bytes}
use Rattle.rme_metrics.proofs.Texts.{appends_three}
use Rattle.rme_metrics.specs.Metrics.{job_families}
use Rattle.rme_metrics.specs.Samples.{labelled_family, plain_family}
use Rattle.rme_metrics.specs.declared.family.MetricFamily.TheVariants.{Workers, OwnersDown}
use Rattle.rme_metrics.proofs.metrics_text.push_state_families.Goals as goal

pub returns : goal.returns
returns c =
    let told = c.args.state.now in
    let workers = rw c.as_slice-workers.ensures.value at c.in_ok-push_labelled_family.ensures in
    appends_three (string_bytes c.args.out.now) _ _ _ (job_families told)
    (labelled_family Workers (codes "stance") told.workers.items) (plain_family OwnersDown told.owners_down)
    c.in_ok-push_job_families.ensures workers c.in_ok-push_plain_family.ensures
