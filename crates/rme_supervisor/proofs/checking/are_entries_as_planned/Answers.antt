use Rattle.std.proofs.Common.{◌<◌, length, arith, refl}
use Rattle.std.proofs.lemmas.Option.{slice_get_within, get_or_from_slice_get}
use Rattle.rme_supervisor.proofs.Following.{one_more}
use Rattle.rme_supervisor.proofs.checking.are_entries_as_planned.Goals as goal

pub loop-worker-preserved : goal.loop-worker-preserved
loop-worker-preserved c =
    one_more c.args.schedule.now.rounds c.args.schedule.now.plans.now c.args.downs.now c.args.ends.now c.loop-worker.worker _ _ _ c.index-plans-worker.is c.index-downs-worker.is
    (λ e at. get_or_from_slice_get c.args.ends.now c.loop-worker.worker e _ at) _ c.entries.ensures (c.is_plan_followed.ensures.0 c.if-not-is_plan_followed.false) c.loop-worker.invariant

pub returns : goal.returns
returns c = (
  λ _ _ w plan down end at_p at_d at_e.
      let within : w < length c.args.downs.now = slice_get_within c.args.downs.now w down at_d in
      c.loop-worker.invariant w plan down end (omega (arith, within, c.loop-worker-test.false)) at_p at_d at_e,
  λ _. refl,
)
