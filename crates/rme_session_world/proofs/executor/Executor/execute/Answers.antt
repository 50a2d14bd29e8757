use Rattle.std.proofs.Common.{◌≡◌, false, refl, sym, subst, ◌∙◌}
use Rattle.std.specs.Prelude.{Option}
use Rattle.rme_words.specs.declared.refusal.Refusal.TheVariants.{Taken}
use Rattle.rme_session_protocol.specs.SessionSteps.{SessionStep, TellsPlace}
use Rattle.rme_session_protocol.specs.declared.reply.SessionReply.TheVariants.{Refused}
use Rattle.rme_session_protocol.specs.Attempts.{with_tries}
use Rattle.rme_session_world.specs.Executors.{is_worker_taken, owned_worker, executor_session_view}
use Rattle.rme_session_world.specs.FencingTokens.{HasFinished}
use Rattle.rme_session_world.specs.ExecutorStates.{ExecutorState}
use Rattle.rme_session_world.specs.SessionBatches.{AppliesSessionOrder}
use Rattle.rme_session_world.specs.declared.event_batch.EventBatch.{EventBatch}
use Rattle.rme_session_world.proofs.Batching.{executor_applies}
use Rattle.rme_session_world.proofs.Seating.{executor_obeys, executor_section, executor_tended, executor_waits}
use Rattle.rme_session_world.proofs.Tokens.{no_token}
use Rattle.rme_session_world.proofs.executor.Executor.execute.Goals as goal

pub invariant_of-self-2 : goal.invariant_of-self-2
invariant_of-self-2 c =
    let S = λ (executor : ExecutorState). c.owned_worker-seat.result ≡ owned_worker executor c.args.stand.now in
    executor_tended c.self.inside.world c.apply_order.new.world c.self.inside.holders.items c.update_holders.new.holders.items c.args.stand.now c.owned_worker-seat.result c.args.order.now c.in-Ok.carried c.recall_invariant.ensures c.self.invariant
    (subst S (sym c.self.view_is) c.owned_worker-seat.ensures) c.update_holders.ensures c.in-Ok.ensures.carries

pub returns-clause-obeys : goal.returns-clause-obeys
returns-clause-obeys c =
    let S = λ (executor : ExecutorState). c.owned_worker-seat.result ≡ owned_worker executor c.args.stand.now in
    let P = λ (executor : ExecutorState). SessionStep executor.world.shape (executor_session_view executor c.args.stand.now) (with_tries 1 c.args.order.now)
    (executor_session_view record { world = c.apply_order.new.world; holders = c.update_holders.new.holders.items } record { session = c.args.stand.now.session; worker = c.in-Ok.carried.seat; planned = c.in-Ok.carried.planned }) c.in-Ok.carried.reply in
    subst P c.self.view_is
    (executor_obeys c.self.inside.world c.apply_order.new.world c.self.inside.holders.items c.update_holders.new.holders.items c.args.stand.now c.owned_worker-seat.result c.args.order.now c.in-Ok.carried c.recall_invariant.ensures c.self.invariant
    (subst S (sym c.self.view_is) c.owned_worker-seat.ensures) c.update_holders.ensures c.in-Ok.ensures.carries)

pub returns-clause-waits : goal.returns-clause-waits
returns-clause-waits c waits =
    executor_waits c.self.inside.world c.apply_order.new.world c.self.inside.holders.items c.update_holders.new.holders.items c.args.stand.now c.owned_worker-seat.result c.args.order.now c.in-Ok.carried c.recall_invariant.ensures c.self.invariant
    c.update_holders.ensures c.in-Ok.ensures.carries waits

pub returns-then-is_worker_taken-clause-section : goal.returns-then-is_worker_taken-clause-section
returns-then-is_worker_taken-clause-section c = no_token c.args.self.now.world (executor_session_view c.args.self.now c.args.stand.now).session (Refused Taken) refl

pub returns-clause-section : goal.returns-clause-section
returns-clause-section c =
    executor_section c.self.inside.world c.apply_order.new.world c.self.inside.holders.items c.update_holders.new.holders.items c.args.stand.now c.owned_worker-seat.result c.args.order.now c.in-Ok.carried c.recall_invariant.ensures c.self.invariant
    c.update_holders.ensures c.in-Ok.ensures.carries

pub returns-clause-place : goal.returns-clause-place
returns-clause-place c = subst (λ (executor : ExecutorState). TellsPlace (HasFinished executor.world) c.in-Ok.carried.reply) c.self.view_is c.in-Ok.ensures.carries.place

pub returns-clause-applies : goal.returns-clause-applies
returns-clause-applies c =
    let S = λ (executor : ExecutorState). c.owned_worker-seat.result ≡ owned_worker executor c.args.stand.now in
    let F = λ (executor : ExecutorState). is_worker_taken executor c.owned_worker-seat.result c.args.order.now ≡ false in
    let N = λ (executor : ExecutorState) (batch : Option EventBatch). AppliesSessionOrder c.args.stand.now.session executor batch record { world = c.apply_order.new.world; holders = c.update_holders.new.holders.items } in
    let applies = executor_applies c.self.inside.world c.apply_order.new.world c.self.inside.holders.items c.update_holders.new.holders.items c.args.stand.now c.owned_worker-seat.result c.args.order.now c.in-Ok.carried c.recall_invariant.ensures c.self.invariant
    (subst S (sym c.self.view_is) c.owned_worker-seat.ensures) (subst F (sym c.self.view_is) (sym c.is_worker_taken.ensures.taken ∙ c.if-is_worker_taken.false)) c.update_holders.ensures c.in-Ok.ensures.carries in
    subst (λ (executor : ExecutorState). N executor c.batch_with_events.result) c.self.view_is (subst (λ (batch : Option EventBatch). N record { world = c.self.inside.world; holders = c.self.inside.holders.items } batch) (sym c.batch_with_events.ensures) applies)
