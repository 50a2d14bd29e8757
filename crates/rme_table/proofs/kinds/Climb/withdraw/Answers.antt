use Rattle.std.proofs.Common.{arith, subst}
use Rattle.rme_service_steps.proofs.Leading.{led_withdraw}
use Rattle.rme_service_steps.specs.SeatViews.{ServiceId}
use Rattle.rme_table.specs.Calls.{PartHoldsNoNode}
use Rattle.rme_table.proofs.Holding.{climbs_at, holds_none, seen_made, seen_fell, climbs_below, same_height}
use Rattle.rme_table.proofs.kinds.Climb.withdraw.Goals as goal

pub returns-in_default-clause-made : goal.returns-in_default-clause-made
returns-in_default-clause-made g c =
    let below = climbs_below _ _ _ _ _ c.self.invariant in
    let height = same_height c.self.view_is c.service.view_is c.requires.ours in
    seen_fell c.self.view_is c.service.view_is c.in_default.ensures (omega (arith, below.1, height))

pub returns-clause-made : goal.returns-clause-made
returns-clause-made g c =
    let below = climbs_below _ _ _ _ _ c.self.invariant in
    let height = same_height c.self.view_is c.service.view_is c.requires.ours in
    seen_made c.self.view_is c.service.view_is c.in-Ok.ensures (omega arith) (omega (arith, below.1, height))

pub returns-clause-holds_none : goal.returns-clause-holds_none
returns-clause-holds_none g c =
    let doing = c.in-Ok.ensures in
    subst (λ (x : ServiceId). PartHoldsNoNode x.shape c.withdraw.new.seat.part) c.service.view_is (holds_none _ _ _ doing.at)

pub returns-in_default-clause-lead : goal.returns-in_default-clause-lead
returns-in_default-clause-lead g c = led_withdraw c.args.service.now.shape c.args.self.part _ (climbs_at _ _ _ c.self.view_is c.self.invariant)

pub returns-clause-lead : goal.returns-clause-lead
returns-clause-lead g c = led_withdraw c.args.service.now.shape c.args.self.part _ (climbs_at _ _ _ c.self.view_is c.self.invariant)
