use Rattle.rme_service_steps.specs.CallSteps.{seat_call}
use Rattle.std.proofs.Common.{◌+◌, sym, ap, subst, arith}
use Rattle.rme_service_steps.proofs.Leading.{led_restart}
use Rattle.rme_service_steps.specs.Parts.{restarted_part}
use Rattle.rme_service_steps.specs.SeatViews.{ServiceId, SeatView}
use Rattle.rme_table.specs.Calls.{PartKnowsNumber, CallIsDone, seat_of_stance}
use Rattle.rme_table.proofs.Holding.{seen_made}
use Rattle.rme_table.proofs.Numbers.{found_numbered}
use Rattle.rme_table.proofs.down.Down.recover.Goals as goal
use Rattle.rme_table.proofs.down.Down.recover.Goals.{in-Ready, in-Climbing, in-Inside, in-Leaving}

pub returns-in_default-clause-lead : goal.returns-in_default-clause-lead
returns-in_default-clause-lead g c = led_restart c.args.service.now.shape c.args.self.part

pub returns-clause-lead : goal.returns-clause-lead
returns-clause-lead g c = led_restart c.args.service.now.shape c.args.self.part

pub returns-clause-made : goal.returns-clause-made
returns-clause-made g c =
    let finds = c.in-Ok.ensures in
    let few = finds.few in
    let height = ap (λ (y : ServiceId). y.shape.height) c.service.view_is in
    let M : SeatView → Type 0 = λ (now : SeatView). CallIsDone (seat_call c.args.service.now.shape restarted_part c.args.self now (g.C.Chance.tally c.args.chance.now) (g.C.Chance.tally c.recover.new.chance)) 2 (c.args.service.now.shape.height + 3) in
    let made : M c.recover.new.seat = seen_made c.self.view_is c.service.view_is finds.doing finds.enough (omega (arith, few, height)) in
    elim c.match-recovered.branch [
      | in-Ready w ↦ subst M (sym (ap seat_of_stance w.result-is)) made
      | in-Climbing w ↦ subst M (sym (ap seat_of_stance w.result-is)) made
      | in-Inside w ↦ subst M (sym (ap seat_of_stance w.result-is)) made
      | in-Leaving w ↦ subst M (sym (ap seat_of_stance w.result-is)) made
    ]

pub returns-clause-number : goal.returns-clause-number
returns-clause-number g c =
    let finds = c.in-Ok.ensures in
    let N : SeatView → Type 0 = λ (now : SeatView). PartKnowsNumber c.args.service.now.shape now.part in
    let knows : N c.recover.new.seat = found_numbered c.recover.new.seat.part _ _ c.service.view_is finds.doing.at in
    elim c.match-recovered.branch [
      | in-Ready w ↦ subst N (sym (ap seat_of_stance w.result-is)) knows
      | in-Climbing w ↦ subst N (sym (ap seat_of_stance w.result-is)) knows
      | in-Inside w ↦ subst N (sym (ap seat_of_stance w.result-is)) knows
      | in-Leaving w ↦ subst N (sym (ap seat_of_stance w.result-is)) knows
    ]
