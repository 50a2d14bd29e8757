use Rattle.std.proofs.Common.{rules, ◌≡◌, length, refl}
use Rattle.std.specs.Prelude.{slice_get, Some}
use Rattle.std.proofs.lemmas.Option.{slice_get_read}
use Rattle.rme_supervisor.proofs.keeping.start_keepers.Goals as goal

pub spawn-requires-after_bounds : goal.spawn-requires-after_bounds
spawn-requires-after_bounds g c =
    let found = c.in-Some-Some.ensures'.lookup in
    let at : slice_get c.args.context.now.schedule.plans.now c.loop-worker.worker ≡ Some c.in-Some-Some.plan.now =
    slice_get_read c.args.context.now.schedule.plans.now (length c.args.context.now.schedule.plans.now) c.loop-worker.worker c.in-Some-Some.plan.now refl found.3.0 found.1 in
    λ κs within. (c.requires.orders c.loop-worker.worker c.in-Some-Some.plan.now at, (search rules, search rules, search rules, search rules))
