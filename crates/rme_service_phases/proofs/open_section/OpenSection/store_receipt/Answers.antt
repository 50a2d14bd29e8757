use Rattle.std.proofs.Common.{arith}
use Rattle.rme_service_steps.proofs.Chains.{falls_at}
use Rattle.rme_service_phases.proofs.Outcomes.{passed_on}
use Rattle.rme_service_phases.proofs.Copied.{reply_may, store_may, store_fell, place_may, place_fell, at_may, at_fell, received}
use Rattle.rme_service_phases.proofs.open_section.OpenSection.store_receipt.Goals as goal

pub load-requires-clause-may : goal.load-requires-clause-may
load-requires-clause-may g c =
    reply_may _ c.args.seat.now (g.C.Chance.tally c.args.chance.now) _ _ _ c.requires.at c.requires.lock _ _ c.shape-shape.ensures c.worker-worker.ensures.worker _ c.shadow_reply_at.ensures

pub returns-in_err-reply : goal.returns-in_err-reply
returns-in_err-reply g c = passed_on _ _ _ c.from_residual.ensures.0 (falls_at _ _ _ _ _ _ 4 c.in_err-reply.ensures (omega arith))

pub store-requires-clause-may : goal.store-requires-clause-may
store-requires-clause-may g c =
    store_may _ c.args.seat.now (g.C.Chance.tally c.args.chance.now) _ _ _ c.requires.at c.requires.lock _ _ c.shape-shape.ensures c.worker-worker.ensures.worker
    _ _ _ c.in_ok-reply.ensures _ c.reply_at.ensures

pub returns-in_err-store : goal.returns-in_err-store
returns-in_err-store g c = passed_on _ _ _ c.from_residual-in_err-store.ensures.0
    (store_fell _ c.args.seat.now (g.C.Chance.tally c.args.chance.now) _ _ _ c.requires.at c.requires.lock _ _ c.shape-shape.ensures c.worker-worker.ensures.worker
    _ _ _ c.in_ok-reply.ensures _ _ c.in_err-store.ensures)

pub store-requires-2-clause-may : goal.store-requires-2-clause-may
store-requires-2-clause-may g c =
    place_may _ c.args.seat.now (g.C.Chance.tally c.args.chance.now) _ _ _ c.requires.at c.requires.lock _ _ c.shape-shape.ensures c.worker-worker.ensures.worker
    _ _ _ c.in_ok-reply.ensures _ _ c.in_ok-store.ensures _ c.place_at.ensures

pub returns-in_err-store-2 : goal.returns-in_err-store-2
returns-in_err-store-2 g c = passed_on _ _ _ c.from_residual-in_err-store-2.ensures.0
    (place_fell _ c.args.seat.now (g.C.Chance.tally c.args.chance.now) _ _ _ c.requires.at c.requires.lock _ _ c.shape-shape.ensures c.worker-worker.ensures.worker
    _ _ _ c.in_ok-reply.ensures _ _ c.in_ok-store.ensures _ _ c.in_err-store-2.ensures)

pub store-requires-3-clause-may : goal.store-requires-3-clause-may
store-requires-3-clause-may g c =
    at_may _ c.args.seat.now (g.C.Chance.tally c.args.chance.now) _ _ _ c.requires.at c.requires.lock _ _ c.shape-shape.ensures c.worker-worker.ensures.worker
    _ _ _ c.in_ok-reply.ensures _ _ c.in_ok-store.ensures _ _ c.in_ok-store-2.ensures _ c.receipt_lock_at.ensures

pub returns-in_err-store-3 : goal.returns-in_err-store-3
returns-in_err-store-3 g c = passed_on _ _ _ c.from_residual-in_err-store-3.ensures.0
    (at_fell _ c.args.seat.now (g.C.Chance.tally c.args.chance.now) _ _ _ c.requires.at c.requires.lock _ _ c.shape-shape.ensures c.worker-worker.ensures.worker
    _ _ _ c.in_ok-reply.ensures _ _ c.in_ok-store.ensures _ _ c.in_ok-store-2.ensures _ _ c.in_err-store-3.ensures)

pub returns : goal.returns
returns g c =
    received _ c.args.seat.now (g.C.Chance.tally c.args.chance.now) _ _ _ c.requires.at c.requires.lock _ _ c.shape-shape.ensures c.worker-worker.ensures.worker
    _ _ _ c.in_ok-reply.ensures _ _ c.in_ok-store.ensures _ _ c.in_ok-store-2.ensures _ _ c.in_ok-store-3.ensures
