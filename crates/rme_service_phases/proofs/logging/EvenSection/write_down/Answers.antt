use Rattle.std.proofs.Common.{arith}
use Rattle.rme_service_steps.proofs.Chains.{falls_at}
use Rattle.rme_service_phases.proofs.Outcomes.{passed_on}
use Rattle.rme_service_phases.proofs.Logged.{reply_may, mask_may, mask_fell, turn_may, turn_fell, logged}
use Rattle.rme_service_phases.proofs.logging.EvenSection.write_down.Goals as goal

pub store-requires-clause-may : goal.store-requires-clause-may
store-requires-clause-may g c = reply_may _ c.args.seat.now (g.C.Chance.tally c.args.chance.now) _ _ _ _ c.requires.at c.requires.lock _ c.shape-shape.ensures _ c.shadow_reply_at.ensures

pub returns-in_err-store : goal.returns-in_err-store
returns-in_err-store g c = passed_on _ _ _ c.from_residual.ensures.0 (falls_at _ _ _ _ _ _ 3 c.in_err-store.ensures (omega arith))

pub store-requires-2-clause-may : goal.store-requires-2-clause-may
store-requires-2-clause-may g c = mask_may _ c.args.seat.now (g.C.Chance.tally c.args.chance.now) _ _ _ _ c.requires.at c.requires.lock _ c.shape-shape.ensures _ _ c.in_ok-store.ensures _ c.mask_at.ensures

pub returns-in_err-store-2 : goal.returns-in_err-store-2
returns-in_err-store-2 g c =
    passed_on _ _ _ c.from_residual-in_err-store-2.ensures.0 (mask_fell _ c.args.seat.now (g.C.Chance.tally c.args.chance.now) _ _ _ _ c.requires.at c.requires.lock _ c.shape-shape.ensures _ _ c.in_ok-store.ensures _ _ c.in_err-store-2.ensures)

pub store-requires-3-clause-may : goal.store-requires-3-clause-may
store-requires-3-clause-may g c =
    turn_may _ c.args.seat.now (g.C.Chance.tally c.args.chance.now) _ _ _ _ c.requires.at c.requires.lock _ c.shape-shape.ensures _ _ c.in_ok-store.ensures _ _ c.in_ok-store-2.ensures _ c.turn_at.ensures

pub returns-in_err-store-3 : goal.returns-in_err-store-3
returns-in_err-store-3 g c = passed_on _ _ _ c.from_residual-in_err-store-3.ensures.0
    (turn_fell _ c.args.seat.now (g.C.Chance.tally c.args.chance.now) _ _ _ _ c.requires.at c.requires.lock _ c.shape-shape.ensures _ _ c.in_ok-store.ensures _ _ c.in_ok-store-2.ensures _ _ c.in_err-store-3.ensures)

pub returns : goal.returns
returns g c = logged _ c.args.seat.now (g.C.Chance.tally c.args.chance.now) _ _ _ _ c.requires.at c.requires.lock _ c.shape-shape.ensures _ _ c.in_ok-store.ensures _ _ c.in_ok-store-2.ensures _ _ c.in_ok-store-3.ensures
