-- The effect of a session's order on a world, and the session's worker afterwards.
use Rattle.std.specs.Prelude.{◌≡◌, ◌≢◌, ℕ, ◌<◌, true, Option, Some, None, IfSome, length, slice_get}
use Rattle.rme_words.specs.declared.refusal.Refusal.TheVariants.{Taken}
use Rattle.rme_session_protocol.specs.SessionSteps.{SessionStep, TellsPlace, TellsSection}
use Rattle.rme_session_protocol.specs.Attempts.{is_still_waiting, with_tries}
use Rattle.rme_session_protocol.specs.declared.planned_crash.PlannedCrash.{PlannedCrash}
use Rattle.rme_session_protocol.specs.declared.view.Session.TheVariants.{Nobody}
use Rattle.rme_session_protocol.specs.declared.view.SessionView.{SessionView}
use Rattle.rme_session_protocol.specs.declared.order.Order.{Order}
use Rattle.rme_session_protocol.specs.declared.order.Order.TheVariants.{Attach}
use Rattle.rme_session_protocol.specs.declared.reply.SessionReply.TheVariants as reply
use Rattle.rme_world.specs.Queries.{WorkerIsBlocked}
use Rattle.rme_world.specs.WorldViews.{WorldView}
use Rattle.rme_session_world.specs.declared.orders.AppliedOrder.{AppliedOrder}
use Rattle.rme_session_world.specs.declared.event_batch.EventBatch.{EventBatch}
use Rattle.rme_session_world.specs.EventBatches.{AppliesEvents, batch_events_if}
use Rattle.rme_session_world.specs.FencingTokens.{HasFinished}
use Rattle.rme_session_world.specs.Downs.{IsWorkerDown}
use Rattle.rme_session_world.specs.Replies.{worker_after_run}
use Rattle.rme_session_world.specs.WorkerSessions.{IsAtRest, worker_session}

-- The session view, from the session's worker, if any, and the planned crash.
abbrev pub worker_view : WorldView → Option ℕ → PlannedCrash → SessionView
worker_view seen None planned = record { session = Nobody; planned = planned }
worker_view seen (Some worker) planned = record { session = worker_session seen worker; planned = planned }

-- The session's worker is at rest; a worker to attach is down.
abbrev pub IsSessionAtRest : WorldView → Option ℕ → Type 0
IsSessionAtRest seen seat = IfSome seat (IsAtRest seen)

abbrev pub IsAttachable : WorldView → Option ℕ → Order → Type 0
IsAttachable seen None (Attach asked) = asked.worker < seen.shape.workers → IsWorkerDown seen asked.worker
IsAttachable seen seat its = Unit {0}

-- The worker of an order: the session's, or the one that it asks to attach. Any other order has none.
abbrev pub IsOrderWorker : Option ℕ → Order → ℕ → Type 0
IsOrderWorker (Some own) its worker = worker ≡ own
IsOrderWorker None (Attach asked) worker = worker ≡ asked.worker
IsOrderWorker None its worker = ⊥

-- The session has a worker, and another worker blocks it.
abbrev pub IsSessionStopped : WorldView → Option ℕ → Type 0
IsSessionStopped seen None = ⊥
IsSessionStopped seen (Some worker) = WorkerIsBlocked seen worker

-- An order was applied with one try: it is a step of the session view, by events of only its worker. The worker is at
-- rest afterwards, or is down and no longer the session's. Its job waits only if another worker blocks it. The fencing
-- token of a worker that is inside has the number of finished sections of its lock; the place of a commit's receipt is
-- that number before the commit.
pub record AppliesOrder (old : WorldView) (seat : Option ℕ) (planned : PlannedCrash) (its : Order)
    (carried : AppliedOrder) (new : WorldView) : Type 0 where
  pub obeys : SessionStep old.shape (worker_view old seat planned) (with_tries 1 its)
      (worker_view new carried.seat carried.planned) carried.reply
  pub happened : AppliesEvents old (batch_events_if carried.batch) new
  pub shape : new.shape ≡ old.shape
  pub own : IfSome carried.batch (λ (batch : EventBatch). IsOrderWorker seat its batch.worker)
  pub rests : IfSome carried.seat (λ worker. IsOrderWorker seat its worker × IsAtRest new worker)
  pub gone : IfSome seat (λ worker. carried.seat ≡ None → IsWorkerDown new worker)
  pub others : (other : ℕ) → (IsOrderWorker seat its other → ⊥)
      → slice_get new.privates other ≡ slice_get old.privates other
  pub long : length new.privates ≡ length old.privates
  pub alone : seat ≡ None → carried.seat ≡ None → (new ≡ old) × (carried.batch ≡ None)
  pub seats : IfSome carried.batch (λ (batch : EventBatch). carried.seat ≡ worker_after_run batch.falls batch.worker)
  pub kept : carried.batch ≡ None → carried.seat ≡ seat
  pub untaken : carried.reply ≢ reply.Refused Taken
  pub waits : is_still_waiting carried.reply ≡ true → IsSessionStopped new carried.seat
  pub section : TellsSection (HasFinished new) (worker_view new carried.seat carried.planned).session carried.reply
  pub place : TellsPlace (HasFinished old) carried.reply
