-- The answers to some lines, as a client needs them.
use Rattle.std.specs.Prelude.{◌≡◌, ◌⊎◌, ◌↔◌, ℕ, List, Ok, Err, Some}
use Rattle.rme_words.specs.declared.refusal.Refusal.TheVariants.{BadLine, Taken}
use Rattle.rme_line_io.specs.Pieces.{InputLine}
use Rattle.rme_session_protocol.specs.Orders.{world_numbers}
use Rattle.rme_session_protocol.specs.SessionLines.{choice_reply_line, session_reply_line}
use Rattle.rme_session_protocol.specs.WorkerChoices.{choice_of_line}
use Rattle.rme_session_protocol.specs.declared.order.Order.TheVariants.{Ping}
use Rattle.rme_session_protocol.specs.declared.reply.SessionReply.TheVariants.{Attached, Pong, Refused}
use Rattle.rme_session_protocol.specs.declared.reply.SessionStance.{SessionStance}
use Rattle.rme_session_protocol.specs.declared.reply.SessionStance.TheVariants as at
use Rattle.rme_session_protocol.specs.declared.worker_choice.ChoiceRequest.{ChoiceRequest}
use Rattle.rme_session_protocol.specs.declared.worker_choice.WorkerChoice.{WorkerChoice}
use Rattle.rme_session_protocol.specs.declared.worker_choice.WorkerChoice.TheVariants as choice
use Rattle.rme_session_loop.specs.SessionAnswers.{parsed_order}
use Rattle.rme_session_threads.specs.declared.stand.Holding.TheVariants.{Empty}
use Rattle.rme_session_threads.specs.declared.stand.Stand.{Stand}

-- A session is told a worker, which is ready exactly if a ready one was asked for.
pub record TellsWorker (names : List (List ℕ)) (asked : WorkerChoice) (bytes : List ℕ) : Type 0 where
  pub worker : ℕ
  pub number : ℕ
  pub stance : SessionStance
  pub fits : (stance ≡ at.Ready) ↔ (asked ≡ choice.Ready)
  pub says : bytes ≡ choice_reply_line names worker (Attached number stance)

-- A ping is answered in any state, and changes nothing. A session without a worker that leaves the choice to the service
-- is told one that it asked for, or that none is free.
pub record AnswersLine (names : List (List ℕ)) (old : Stand) (line : InputLine) (bytes : List ℕ) (now : Stand) : Type 0
  where
    pub ping : parsed_order names world_numbers line ≡ Ok Ping
        → (bytes ≡ session_reply_line names Pong) × (now ≡ old)
    pub any : parsed_order names world_numbers line ≡ Err BadLine
        → (asked : ChoiceRequest) → choice_of_line line ≡ Some asked → old.value ≡ Empty
        → TellsWorker names asked.choice bytes ⊎ (bytes ≡ session_reply_line names (Refused Taken))
