use Rattle.std.proofs.Common.{◌≡◌, ap, refl, subst, sym, ◌∙◌}
use Rattle.std.specs.Prelude.{IfSome, List, None, Option, Some, slice_get, ℕ}
use Rattle.rme_session_protocol.specs.declared.planned_crash.PlannedCrash.TheVariants.{Nothing}
use Rattle.rme_session_protocol.specs.declared.order.Order.TheVariants.{Detach}
use Rattle.rme_session_world.specs.declared.event_batch.EventBatch.{EventBatch}
use Rattle.rme_session_world.specs.SessionBatches.{AppliesSessionOrder}
use Rattle.rme_session_world.specs.Executors.{holders_after, owned_worker}
use Rattle.rme_session_world.specs.Downs.{IsWorkerDown}
use Rattle.rme_session_world.specs.ExecutorStates.{ExecutorInvariant, ExecutorState}
use Rattle.rme_machine.proofs.Lists.{get_set}
use Rattle.rme_session_world.proofs.Batching.{executor_applies}
use Rattle.rme_session_world.proofs.Seating.{seat_within, tended_after}
use Rattle.rme_session_world.proofs.executor.Executor.detach_session.Goals as goal

pub invariant_of-self : goal.invariant_of-self
invariant_of-self c =
    let S = λ (executor : ExecutorState). Some c.in-Some.worker ≡ owned_worker executor c.args.stand.now in
    let H = λ (holders : List (Option ℕ)). ExecutorInvariant record { world = c.detach-carried.new.world; holders = holders } in
    let own = seat_within record { world = c.self.inside.world; holders = c.self.inside.holders.items } c.args.stand.now (Some c.in-Some.worker) (subst S (sym c.self.view_is) (sym c.in-Some.is ∙ c.owned_worker-seat.ensures)) in
    subst H (sym c.update_holders.ensures)
    (tended_after c.self.inside.world c.detach-carried.new.world c.self.inside.holders.items c.args.stand.now.session c.self.invariant (Some c.in-Some.worker) None Nothing Detach c.detach-carried.result
    c.detach-carried.ensures.nobody own tt (c.detach-carried.ensures.carries Nothing))

pub returns-clause-down : goal.returns-clause-down
returns-clause-down c =
    let S = λ (executor : ExecutorState). Some c.in-Some.worker ≡ owned_worker executor c.args.stand.now in
    let own = seat_within record { world = c.self.inside.world; holders = c.self.inside.holders.items } c.args.stand.now (Some c.in-Some.worker) (subst S (sym c.self.view_is) (sym c.in-Some.is ∙ c.owned_worker-seat.ensures)) in
    let free = ap (λ (holders : List (Option ℕ)). slice_get holders c.in-Some.worker) c.update_holders.ensures ∙ get_set c.self.inside.holders.items c.in-Some.worker None own in
    let D = λ (seat : Option ℕ). IfSome seat (λ worker. IsWorkerDown c.detach-carried.new.world worker × (slice_get c.update_holders.new.holders.items worker ≡ Some None)) in
    subst D (sym c.in-Some.is ∙ c.owned_worker-seat.ensures) ((c.detach-carried.ensures.carries Nothing).gone c.detach-carried.ensures.nobody, free)

pub returns-clause-applies : goal.returns-clause-applies
returns-clause-applies c =
    let S = λ (executor : ExecutorState). Some c.in-Some.worker ≡ owned_worker executor c.args.stand.now in
    let is = subst S (sym c.self.view_is) (sym c.in-Some.is ∙ c.owned_worker-seat.ensures) in
    let after = c.update_holders.ensures ∙ ap (λ (seat : Option ℕ). holders_after c.self.inside.holders.items (Some c.in-Some.worker) seat c.args.stand.now.session) (sym c.detach-carried.ensures.nobody) in
    let N = λ (executor : ExecutorState) (batch : Option EventBatch). AppliesSessionOrder c.args.stand.now.session executor batch record { world = c.detach-carried.new.world; holders = c.update_holders.new.holders.items } in
    let applies = executor_applies c.self.inside.world c.detach-carried.new.world c.self.inside.holders.items c.update_holders.new.holders.items c.args.stand.now (Some c.in-Some.worker) Detach c.detach-carried.result
    c.recall_invariant.ensures c.self.invariant is refl after (c.detach-carried.ensures.carries c.args.stand.now.planned) in
    subst (λ (executor : ExecutorState). N executor c.batch_with_events.result) c.self.view_is (subst (λ (batch : Option EventBatch). N record { world = c.self.inside.world; holders = c.self.inside.holders.items } batch) (sym c.batch_with_events.ensures) applies)
