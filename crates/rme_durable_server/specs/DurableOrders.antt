-- How the orders of a session of the durable server are executed, try by try, and answered.
use Rattle.std.specs.Prelude.{◌≡◌, ◌⊎◌, ℕ, zero, suc, nat_le, Bool, true, false}
use Rattle.rme_durable_epochs.specs.ClientLives.{TellsClientLife, TellsOvertaken}
use Rattle.rme_durable_epochs.specs.EpochStates.{SessionStepAcrossCheckpoints, TellsClientPlace, TellsClientSection, executor_session}
use Rattle.rme_durable_log.specs.StoreCalls.{StoreState}
use Rattle.rme_durable_log.specs.Logs.{IsCommitted}
use Rattle.rme_session_protocol.specs.Attempts.{merged_reply, retry_order, is_still_waiting}
use Rattle.rme_session_world.specs.Executors.{executor_session_view}
use Rattle.rme_session_protocol.specs.declared.order.Order.{Order}
use Rattle.rme_session_protocol.specs.declared.order.Order.TheVariants.{Attach}
use Rattle.rme_session_protocol.specs.declared.reply.SessionReply.{SessionReply}
use Rattle.rme_session_protocol.specs.declared.reply.SessionReply.TheVariants.{Refused}
use Rattle.rme_words.specs.declared.refusal.Refusal.TheVariants.{NoWorker, Taken}
use Rattle.rme_durable_server.specs.ServerHistories.{ServerOpening, ServerState, SessionActs, SessionMoment}

-- One try: the session executed the order at one moment of the log, with no other session between, as its client sees
-- it over all epochs. A client whose worker is inside is told the number of the lock's finished sections, which is the
-- place in the receipt of its commit, and the life of the worker. An attachment after a life is overtaken exactly if the
-- worker was restarted since.
pub record DurableAttempt (opening : ServerOpening) (old : SessionMoment) (its : Order) (now : SessionMoment)
    (answer : SessionReply) : Type 0 where
  pub before : ServerState
  pub after : ServerState
  pub acts : SessionActs opening old before now after
  pub obeys : SessionStepAcrossCheckpoints before.base (executor_session before.executor old.session) its
      (executor_session after.executor now.session) answer
  pub section : TellsClientSection before.base (executor_session after.executor now.session) answer
  pub place : TellsClientPlace before.base before.executor.world answer
  pub life : TellsClientLife after.lives (executor_session after.executor now.session) answer
  pub overtaken : TellsOvertaken before.lives before.executor.world.shape.workers
      (executor_session_view before.executor old.session).session its answer

-- One try, from this state.
abbrev pub AttemptFrom : ServerState → ServerOpening → SessionMoment → Order → SessionMoment → SessionReply → Type 0
AttemptFrom state opening old its now answer =
    (attempt : DurableAttempt opening old its now answer) × (attempt.before ≡ state)

-- An order with this reply is tried again: its job waits, or another session has the worker that it would take over.
abbrev pub IsAnswerUnfinished : SessionReply → Type 0
IsAnswerUnfinished first = (is_still_waiting first ≡ true) ⊎ (first ≡ Refused Taken)

-- An order is executed by one try, and by this number of further tries; between tries other sessions may act.
abbrev pub DurableAttempts : ServerOpening → ℕ → SessionMoment → Order → SessionMoment → SessionReply → Type 0
DurableAttempts opening zero old its now answer = DurableAttempt opening old its now answer
DurableAttempts opening (suc more) old its now answer =
    (mid : SessionMoment) × (first : SessionReply) × (last : SessionReply)
    × DurableAttempts opening more old its mid first × IsAnswerUnfinished first
    × DurableAttempt opening mid (retry_order its) now last × (answer ≡ merged_reply first last)

-- An order is executed by this number of tries.
abbrev pub DurableTries : ServerOpening → ℕ → SessionMoment → Order → SessionMoment → SessionReply → Type 0
DurableTries opening zero old its now answer = ⊥
DurableTries opening (suc more) old its now answer = DurableAttempts opening more old its now answer

abbrev pub DurableOrder : ServerOpening → SessionMoment → Order → SessionMoment → SessionReply → Type 0
DurableOrder opening old its now answer = (more : ℕ) × DurableAttempts opening more old its now answer

-- An order that would attach the checkpoint worker. The workers below `clients` can be attached.
abbrev pub asks_checkpoint_worker : ℕ → Order → Bool
asks_checkpoint_worker clients (Attach asked) = nat_le clients asked.worker
asks_checkpoint_worker clients its = false

-- What the answers of a durable server depend on: the number of workers that clients can attach, whether others may
-- write to the store, and the opening.
pub record ClientTerms : Type 1 where
  pub clients : ℕ
  pub shared : Bool
  pub opening : ServerOpening

abbrev pub client_terms : ℕ → Bool → ServerOpening → ClientTerms
client_terms clients shared opening = record { clients = clients; shared = shared; opening = opening }

-- An order that would attach the checkpoint worker is refused as if there were no such worker, and never executed. Any
-- other order is executed, and answered once everything before its moment is durable, and the log was still the
-- server's own after it.
abbrev pub DurableOrderEffect : {X : Type 0} → (X → StoreState) → ClientTerms → SessionMoment → Order
    → SessionMoment → SessionReply → Type 0
DurableOrderEffect holds terms old its now answer =
    ((asks_checkpoint_worker terms.clients its ≡ true) × (answer ≡ Refused NoWorker) × (now ≡ old))
    ⊎ ((asks_checkpoint_worker terms.clients its ≡ false) × DurableOrder terms.opening old its now answer
    × IsCommitted terms.shared holds now.log)
