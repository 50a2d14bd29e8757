use Rattle.std.proofs.Common.{refl, ◌∙◌, arith}
use Rattle.rme_service_phases.proofs.Outcomes.{passed_on}
use Rattle.rme_service_phases.proofs.Recoveries.{is_worker, restart_may, restart_fell, begun_few, done_may, done_fell, none_ready, lock_may, lock_fell, lock_few, path_before, path_falls, path_found}
use Rattle.rme_service_phases.proofs.recovering.recover.Goals as goal

pub load-requires-clause-may : goal.load-requires-clause-may
load-requires-clause-may g c = restart_may _ _ c.requires.ours c.worker-worker.ensures.stood _ _ c.shape-shape.ensures c.worker-worker.ensures.worker _ c.begun_at-begun_at.ensures

pub returns-in_err-begun : goal.returns-in_err-begun
returns-in_err-begun g c = passed_on _ _ _ c.from_residual.ensures.0 (restart_fell _ _ c.requires.ours c.worker-worker.ensures.stood _ _ c.shape-shape.ensures c.worker-worker.ensures.worker _ _ _ c.in_err-begun.ensures)

pub load-requires-2-clause-may : goal.load-requires-2-clause-may
load-requires-2-clause-may g c = done_may _ _ c.requires.ours c.worker-worker.ensures.stood _ _ c.shape-shape.ensures c.worker-worker.ensures.worker _ _ _ _ c.in_ok-begun.ensures _ c.done_at-done_at.ensures

pub returns-in_err-done : goal.returns-in_err-done
returns-in_err-done g c = passed_on _ _ _ c.from_residual-in_err-done.ensures.0 (done_fell _ _ c.requires.ours c.worker-worker.ensures.stood _ _ c.shape-shape.ensures c.worker-worker.ensures.worker _ _ _ _ c.in_ok-begun.ensures _ _ c.in_err-done.ensures)

pub returns-then-begun-eq0 : goal.returns-then-begun-eq0
returns-then-begun-eq0 g c = none_ready _ _ c.requires.ours c.worker-worker.ensures.stood _ _ c.shape-shape.ensures c.worker-worker.ensures.worker _ _ _ _ c.in_ok-begun.ensures _ _ _ c.in_ok-done.ensures c.if-begun-eq0.true

pub lock_at-lock_at-requires : goal.lock_at-lock_at-requires
lock_at-lock_at-requires g c = is_worker _ _ c.requires.ours c.worker-worker.ensures.stood _ _ c.shape-shape.ensures c.worker-worker.ensures.worker

pub load-requires-3-clause-may : goal.load-requires-3-clause-may
load-requires-3-clause-may g c = lock_may _ _ c.requires.ours c.worker-worker.ensures.stood _ _ c.shape-shape.ensures c.worker-worker.ensures.worker _ _ _ _ c.in_ok-begun.ensures _ _ _ c.in_ok-done.ensures c.if-begun-eq0.false _ refl _ c.lock_at-lock_at.ensures

pub returns-in_err-lock : goal.returns-in_err-lock
returns-in_err-lock g c = passed_on _ _ _ c.from_residual-in_err-lock.ensures.0 (lock_fell _ _ c.requires.ours c.worker-worker.ensures.stood _ _ c.shape-shape.ensures c.worker-worker.ensures.worker _ _ _ _ c.in_ok-begun.ensures _ _ _ c.in_ok-done.ensures c.if-begun-eq0.false _ refl _ _ c.in_err-lock.ensures)

pub overflow_cast-lock : goal.overflow_cast-lock
overflow_cast-lock g c = let few = lock_few _ _ c.requires.ours c.worker-worker.ensures.stood _ _ c.shape-shape.ensures c.worker-worker.ensures.worker _ _ _ _ c.in_ok-begun.ensures _ _ _ c.in_ok-done.ensures c.if-begun-eq0.false _ refl _ _ _ c.in_ok-lock.ensures in omega (arith, few)

pub find_path-requires-clause-at : goal.find_path-requires-clause-at
find_path-requires-clause-at g c = path_before _ _ c.requires.ours c.worker-worker.ensures.stood _ _ c.shape-shape.ensures c.worker-worker.ensures.worker _ _ _ _ c.in_ok-begun.ensures _ _ _ c.in_ok-done.ensures c.if-begun-eq0.false _ refl _ _ _ c.in_ok-lock.ensures

pub find_path-requires-clause-ours : goal.find_path-requires-clause-ours
find_path-requires-clause-ours g c = c.in_ok-lock.ensures.ident ∙ c.in_ok-done.ensures.ident ∙ c.in_ok-begun.ensures.ident ∙ c.requires.ours

pub returns-in_err-found : goal.returns-in_err-found
returns-in_err-found g c = passed_on _ _ _ c.from_residual-in_err-found.ensures.0 (path_falls _ _ c.requires.ours c.worker-worker.ensures.stood _ _ c.shape-shape.ensures c.worker-worker.ensures.worker _ _ _ _ c.in_ok-begun.ensures _ _ _ c.in_ok-done.ensures c.if-begun-eq0.false _ refl _ _ _ c.in_ok-lock.ensures _ _ c.in_err-found.ensures)

pub overflow_cast-result : goal.overflow_cast-result
overflow_cast-result g c = let few = begun_few _ _ c.requires.ours c.worker-worker.ensures.stood _ _ c.shape-shape.ensures c.worker-worker.ensures.worker _ _ _ _ c.in_ok-begun.ensures in omega (arith, few)

pub returns : goal.returns
returns g c = path_found _ _ c.requires.ours c.worker-worker.ensures.stood _ _ c.shape-shape.ensures c.worker-worker.ensures.worker _ _ _ _ c.in_ok-begun.ensures _ _ _ c.in_ok-done.ensures c.if-begun-eq0.false _ refl _ _ _ c.in_ok-lock.ensures _ _ _ c.in_ok-found.ensures
