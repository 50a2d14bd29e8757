-- A session of the running service that leaves it to the service which worker it attaches.
use Rattle.std.specs.Prelude.{◌≡◌, ◌≢◌, ℕ, Bool, true, false, List, Option, Some, None, Result, Ok, Err}
use Rattle.rme_words.specs.declared.refusal.Refusal.{Refusal}
use Rattle.rme_words.specs.declared.refusal.Refusal.TheVariants.{BadLine, Busy, Taken}
use Rattle.rme_line_io.specs.Pieces.{InputLine}
use Rattle.rme_service_steps.specs.SeatViews.{ServiceId}
use Rattle.rme_session_protocol.specs.Orders.{world_numbers}
use Rattle.rme_session_protocol.specs.SessionLines.{choice_reply_line, session_reply_line}
use Rattle.rme_session_protocol.specs.WorkerChoices.{choice_of_line, is_chosen}
use Rattle.rme_session_protocol.specs.declared.order.Order.{Order}
use Rattle.rme_session_protocol.specs.declared.order.Order.TheVariants.{Attach}
use Rattle.rme_session_protocol.specs.declared.reply.SessionReply.{SessionReply}
use Rattle.rme_session_protocol.specs.declared.reply.SessionReply.TheVariants.{Attached, Refused}
use Rattle.rme_session_protocol.specs.declared.reply.SessionStance.{SessionStance}
use Rattle.rme_session_protocol.specs.declared.reply.SessionStance.TheVariants.{Ready, Climb, Held}
use Rattle.rme_session_protocol.specs.declared.worker_choice.ChoiceRequest.{ChoiceRequest}
use Rattle.rme_session_protocol.specs.declared.worker_choice.WorkerChoice.{WorkerChoice}
use Rattle.rme_session_loop.specs.SessionAnswers.{parsed_order}
use Rattle.rme_session_threads.specs.Stands.{empty_stand}
use Rattle.rme_session_threads.specs.ThreadSteps.{ThreadSessionStep}
use Rattle.rme_session_threads.specs.declared.stand.Holding.TheVariants.{Empty}
use Rattle.rme_session_threads.specs.declared.stand.Stand.{Stand}
use Rattle.rme_server.specs.ServiceAttempts.{SessionStepUntilGone}
use Rattle.rme_server.specs.declared.worker_choice.ChosenWorker.{ChosenWorker}

-- A worker that was attached has a pending job, or none.
abbrev pub has_pending_job : SessionStance → Bool
has_pending_job Ready = false
has_pending_job Climb = true
has_pending_job Held = true

abbrev pub IsChosenReply : WorkerChoice → SessionReply → Type 0
IsChosenReply choice (Attached number stance) = is_chosen choice (has_pending_job stance) ≡ true
IsChosenReply choice answer = ⊥

-- A session without a worker attached this one, which the choice takes.
pub record AttachesChosenWorker (ident : ServiceId) (count : ℕ) (choice : WorkerChoice) (worker : ℕ)
    (answer : SessionReply) (now : Stand) : Type 0 where
  pub step : ThreadSessionStep ident count empty_stand (Attach record
      { worker = worker; take = false; after = None; label = None }) now answer
  pub chosen : IsChosenReply choice answer

-- What the session gets: a worker that the choice takes, if it had none; or none, and then it has what it had.
abbrev pub ChoiceOutcome : ServiceId → ℕ → Stand → WorkerChoice → Result ChosenWorker Refusal → Stand → Type 0
ChoiceOutcome ident count old choice (Ok found) now =
    (old.value ≡ Empty) × AttachesChosenWorker ident count choice found.worker found.reply now
ChoiceOutcome ident count old choice (Err Busy) now = (old.value ≢ Empty) × (now ≡ old)
ChoiceOutcome ident count old choice (Err Taken) now = (old.value ≡ Empty) × (now ≡ empty_stand)
ChoiceOutcome ident count old choice (Err why) now = ⊥

abbrev pub chosen_worker_line : List (List ℕ) → Result ChosenWorker Refusal → List ℕ
chosen_worker_line names (Ok found) = choice_reply_line names found.worker found.reply
chosen_worker_line names (Err why) = session_reply_line names (Refused why)

abbrev pub ServiceChoice : ServiceId → ℕ → List (List ℕ) → Stand → WorkerChoice → List ℕ → Stand → Type 0
ServiceChoice ident count names old choice bytes now =
    (found : Result ChosenWorker Refusal) × ChoiceOutcome ident count old choice found now
    × (bytes ≡ chosen_worker_line names found)

-- A line that is no order is answered by why it is refused, or, if it is a bad line, by its choice of a worker.
abbrev pub NonOrderAnswer : ServiceId → ℕ → List (List ℕ) → Stand → Refusal → Option ChoiceRequest → List ℕ → Stand
    → Type 0
NonOrderAnswer ident count names old BadLine (Some asked) bytes now =
    ServiceChoice ident count names old asked.choice bytes now
NonOrderAnswer ident count names old why choice bytes now =
    (now ≡ old) × (bytes ≡ session_reply_line names (Refused why))

-- HOW A LINE IS ANSWERED. An order is executed, and answered by its reply.
abbrev pub AnswerByOrder : Type 0 → ServiceId → ℕ → List (List ℕ) → Result Order Refusal → Option ChoiceRequest → Stand
    → List ℕ → Stand → Type 0
AnswerByOrder gone ident count names (Ok its) choice old bytes now =
    (answer : SessionReply) × SessionStepUntilGone gone (ThreadSessionStep ident count) old its now answer
    × (bytes ≡ session_reply_line names answer)
AnswerByOrder gone ident count names (Err why) choice old bytes now =
    NonOrderAnswer ident count names old why choice bytes now

abbrev pub ServiceLineAnswer : Type 0 → ServiceId → ℕ → List (List ℕ) → Stand → InputLine → List ℕ → Stand → Type 0
ServiceLineAnswer gone ident count names old line bytes now =
    AnswerByOrder gone ident count names (parsed_order names world_numbers line) (choice_of_line line) old bytes now
