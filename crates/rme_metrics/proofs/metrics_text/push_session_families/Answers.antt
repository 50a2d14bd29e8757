use Rattle.std.proofs.Common.{codes, string_bytes}
use Rattle.rme_metrics.proofs.Texts.{appends_six}
use Rattle.rme_metrics.specs.Samples.{histogram_family, labelled_family, plain_family}
use Rattle.rme_metrics.specs.declared.family.MetricFamily.TheVariants.{SessionsOpen, SessionsBegun, SessionsWaiting, Orders, Refusals, OrderSeconds}
use Rattle.rme_metrics.proofs.metrics_text.push_session_families.Goals as goal

pub returns : goal.returns
returns c =
    let told = c.args.sessions.now in
    let orders = rw c.as_slice-orders.ensures.value at c.in_ok-push_labelled_family.ensures in
    let refusals = rw c.as_slice-refusals.ensures.value at c.in_ok-push_labelled_family-2.ensures in
    appends_six (string_bytes c.args.out.now) _ _ _ _ _ _ (plain_family SessionsOpen told.open)
    (plain_family SessionsBegun told.begun) (plain_family SessionsWaiting told.waiting)
    (labelled_family Orders (codes "kind") told.orders.items)
    (labelled_family Refusals (codes "name") told.refusals.items) (histogram_family OrderSeconds told.order_times)
    c.in_ok-push_plain_family.ensures c.in_ok-push_plain_family-2.ensures c.in_ok-push_plain_family-3.ensures
    orders refusals c.in_ok-push_histogram_family.ensures
