use Rattle.std.proofs.Common.{◌≤◌, ◌<◌, ◌^◌, ◌+◌, List, arith, subst, sym}
use Rattle.rme_metrics.specs.declared.label.LabelledCount.{LabelledCount}
use Rattle.rme_metrics.proofs.Rising.{RisesTo, rises_more}
use Rattle.rme_metrics.proofs.time_counter.TimeSums.histogram.Goals as goal

pub loop-place-preserved : goal.loop-place-preserved
loop-place-preserved c =
    let was : c.loop-place.count < 2 ^ 64 = c.loop-place.invariant.small in
    let more : c.loop-place.count ≤ c.saturating_add-count.result = omega arith in
    let small : c.saturating_add-count.result < 2 ^ 64 = omega arith in
    let P : List LabelledCount → Type 0 = λ buckets. RisesTo buckets (c.loop-place.place + 1) c.saturating_add-count.result in
    subst P (sym c.in_ok-push.ensures.items) (rises_more c.loop-place.buckets.items c.loop-place.place c.loop-place.count _ c.loop-place.invariant more small)
