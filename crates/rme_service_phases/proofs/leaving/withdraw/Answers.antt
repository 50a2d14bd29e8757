use Rattle.std.proofs.Common.{arith}
use Rattle.rme_service_phases.proofs.Outcomes.{passed_on, ends_with}
use Rattle.rme_service_phases.proofs.Withdrawals.{climbs_in, withdraw_may, withdraw_fell, at_may, at_fell, reply_may, reply_fell, done_may, done_fell, withdraw_ends, withdraw_falls}
use Rattle.rme_service_phases.proofs.leaving.withdraw.Goals as goal

pub store-requires-clause-may : goal.store-requires-clause-may
store-requires-clause-may g c = withdraw_may _ _ _ _ c.requires.at _ _ _ c.shape-shape.ensures c.worker-worker.ensures.worker c.place_at-place.ensures

pub returns-in_err-store : goal.returns-in_err-store
returns-in_err-store g c = passed_on _ _ _ c.from_residual.ensures.0 (withdraw_fell _ _ _ _ _ _ _ c.requires.at c.in_err-store.ensures)

pub store-requires-2-clause-may : goal.store-requires-2-clause-may
store-requires-2-clause-may g c = at_may _ _ _ _ _ _ _ c.requires.at _ _ c.shape-shape.ensures c.worker-worker.ensures.worker c.in_ok-store.ensures _ c.receipt_lock_at-at.ensures

pub returns-in_err-store-2 : goal.returns-in_err-store-2
returns-in_err-store-2 g c = passed_on _ _ _ c.from_residual-in_err-store-2.ensures.0 (at_fell _ _ _ _ _ _ _ c.requires.at _ _ c.shape-shape.ensures c.worker-worker.ensures.worker c.in_ok-store.ensures _ _ c.in_err-store-2.ensures)

pub store-requires-3-clause-may : goal.store-requires-3-clause-may
store-requires-3-clause-may g c = reply_may _ _ _ _ _ _ _ c.requires.at _ _ c.shape-shape.ensures c.worker-worker.ensures.worker c.in_ok-store.ensures _ _ c.in_ok-store-2.ensures _ c.reply_at-reply.ensures

pub returns-in_err-store-3 : goal.returns-in_err-store-3
returns-in_err-store-3 g c = passed_on _ _ _ c.from_residual-in_err-store-3.ensures.0 (reply_fell _ _ _ _ _ _ _ c.requires.at _ _ c.shape-shape.ensures c.worker-worker.ensures.worker c.in_ok-store.ensures _ _ c.in_ok-store-2.ensures _ _ c.in_err-store-3.ensures)

pub store-requires-4-clause-may : goal.store-requires-4-clause-may
store-requires-4-clause-may g c = done_may _ _ _ _ _ _ _ c.requires.at _ _ c.shape-shape.ensures c.worker-worker.ensures.worker c.in_ok-store.ensures _ _ c.in_ok-store-2.ensures _ _ c.in_ok-store-3.ensures _ _ c.done_at-done.ensures c.requires.begun

pub returns-in_err-store-4 : goal.returns-in_err-store-4
returns-in_err-store-4 g c = passed_on _ _ _ c.from_residual-in_err-store-4.ensures.0 (done_fell _ _ _ _ _ _ _ c.requires.at _ _ c.shape-shape.ensures c.worker-worker.ensures.worker c.in_ok-store.ensures _ _ c.in_ok-store-2.ensures _ _ c.in_ok-store-3.ensures _ _ c.in_err-store-4.ensures)

pub clear-requires-clause-levels : goal.clear-requires-clause-levels
clear-requires-clause-levels g c = let few = (climbs_in _ _ _ _ c.requires.at).1 in omega (arith, few)

pub clear-requires-clause-lock : goal.clear-requires-clause-lock
clear-requires-clause-lock g c = (climbs_in _ _ _ _ c.requires.at).0

pub returns : goal.returns
returns g c = ends_with _ _ _ _ _ c.clear.ensures
    (λ x d. withdraw_ends _ _ _ _ _ _ _ c.requires.at _ _ c.shape-shape.ensures c.worker-worker.ensures.worker c.in_ok-store.ensures _ _ c.in_ok-store-2.ensures _ _ c.in_ok-store-3.ensures _ _ _ c.in_ok-store-4.ensures _ _ d)
    (λ f. withdraw_falls _ _ _ _ _ _ _ c.requires.at _ _ c.shape-shape.ensures c.worker-worker.ensures.worker c.in_ok-store.ensures _ _ c.in_ok-store-2.ensures _ _ c.in_ok-store-3.ensures _ _ _ c.in_ok-store-4.ensures _ _ f)
