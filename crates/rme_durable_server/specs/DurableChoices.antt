-- How a session of the durable server attaches a worker of the server's choice.
use Rattle.std.specs.Prelude.{◌≡◌, ◌≢◌, ℕ, false, List, None}
use Rattle.rme_durable_log.specs.StoreCalls.{StoreState}
use Rattle.rme_durable_log.specs.Logs.{IsCommitted}
use Rattle.rme_session_protocol.specs.SessionLines.{choice_reply_line, session_reply_line}
use Rattle.rme_session_protocol.specs.declared.view.Session.TheVariants.{Nobody}
use Rattle.rme_session_protocol.specs.declared.worker_choice.ChoiceRequest.{ChoiceRequest}
use Rattle.rme_session_protocol.specs.declared.worker_choice.WorkerChoice.{WorkerChoice}
use Rattle.rme_session_world.specs.Executors.{HasNoCandidate, IsChosenWorker, executor_session_view}
use Rattle.rme_session_world.specs.ExecutorStates.{ExecutorState}
use Rattle.rme_session_world.specs.declared.executor.SessionState.{SessionState}
use Rattle.rme_session_protocol.specs.declared.order.Order.TheVariants.{Attach}
use Rattle.rme_session_protocol.specs.declared.reply.SessionReply.{SessionReply}
use Rattle.rme_session_protocol.specs.declared.reply.SessionReply.TheVariants.{Refused}
use Rattle.rme_words.specs.declared.refusal.Refusal.{Refusal}
use Rattle.rme_words.specs.declared.refusal.Refusal.TheVariants.{Busy, Taken}
use Rattle.rme_durable_server.specs.declared.worker_choice.Chosen.{Chosen}
use Rattle.rme_durable_server.specs.declared.worker_choice.Chosen.TheVariants as chosen
use Rattle.rme_durable_server.specs.declared.worker_choice.Chosen.TheVariants.{Worker}
use Rattle.rme_session_protocol.specs.ClientReplies.{reply_of_client}
use Rattle.rme_durable_server.specs.ServerHistories.{ServerOpening, ServerState, SessionActs, SessionMoment}
use Rattle.rme_durable_server.specs.DurableOrders.{ClientTerms, DurableAttempt}

-- Why a session gets no worker of the server's choice: it has a worker, or no worker without a session fits the choice.
abbrev pub IsWhyNoneChosen : ℕ → ExecutorState → SessionState → WorkerChoice → Refusal → Type 0
IsWhyNoneChosen clients executor session choice Busy = (executor_session_view executor session).session ≢ Nobody
IsWhyNoneChosen clients executor session choice Taken = HasNoCandidate executor choice clients
IsWhyNoneChosen clients executor session choice why = ⊥

-- At one moment of the log, at which it appends nothing, the session gets no worker for this reason.
pub record ChoiceIsRefused (terms : ClientTerms) (old : SessionMoment) (choice : WorkerChoice) (why : Refusal)
    (now : SessionMoment) : Type 0 where
  pub state : ServerState
  pub session : now.session ≡ old.session
  pub acts : SessionActs terms.opening old state now state
  pub none : IsWhyNoneChosen terms.clients state.executor old.session choice why

-- At one moment of the log the session attaches the lowest worker that fits the choice then, with the given label.
pub record AttachesChosen (opening : ServerOpening) (clients : ℕ) (old : SessionMoment) (asked : ChoiceRequest)
    (worker : ℕ) (now : SessionMoment) (answer : SessionReply) : Type 0 where
  pub attempt : DurableAttempt opening old (Attach record
      { worker = worker; take = false; after = None; label = asked.label }) now answer
  pub chosen : IsChosenWorker attempt.before.executor asked.choice clients worker

-- The outcome of a choice: the session attaches a worker with this reply, or it gets none.
abbrev pub DurableChoiceOutcome : ClientTerms → SessionMoment → ChoiceRequest → Chosen → SessionMoment → Type 0
DurableChoiceOutcome terms old asked (Worker worker told) now =
    AttachesChosen terms.opening terms.clients old asked worker now (reply_of_client told)
DurableChoiceOutcome terms old asked (chosen.Refused why) now = ChoiceIsRefused terms old asked.choice why now

-- The line that answers a choice.
abbrev pub chosen_line : List (List ℕ) → Chosen → List ℕ
chosen_line names (Worker worker told) = choice_reply_line names worker (reply_of_client told)
chosen_line names (chosen.Refused why) = session_reply_line names (Refused why)

-- A choice is answered with its outcome, once everything before its moment is durable, and the log was still the
-- server's own after it.
abbrev pub DurableChoice : {X : Type 0} → (X → StoreState) → ClientTerms → SessionMoment → ChoiceRequest → List ℕ
    → SessionMoment → Type 0
DurableChoice holds terms old asked bytes now =
    (found : Chosen) × DurableChoiceOutcome terms old asked found now × IsCommitted terms.shared holds now.log
    × (bytes ≡ chosen_line terms.opening.names found)
