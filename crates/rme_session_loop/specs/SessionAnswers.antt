-- How a line of a session is answered, and what was written if a line has no answer.
use Rattle.std.specs.Prelude.{◌≡◌, ℕ, List, [], Option, Result, Err, true}
use Rattle.std.specs.Option.{ok_or}
use Rattle.rme_session_protocol.specs.declared.order.Order.{Order}
use Rattle.rme_session_protocol.specs.declared.order.Order.TheVariants.{Attach}
use Rattle.rme_session_protocol.specs.declared.reply.SessionReply.{SessionReply}
use Rattle.rme_session_protocol.specs.declared.reply.SessionReply.TheVariants.{Refused}
use Rattle.rme_session_protocol.specs.Orders.{order_of_line}
use Rattle.rme_words.specs.declared.refusal.Refusal.{Refusal}
use Rattle.rme_words.specs.declared.refusal.Refusal.TheVariants.{BadLine, LineTooLong, Taken}
use Rattle.rme_session_protocol.specs.Attempts.{is_still_waiting}
use Rattle.rme_line_io.specs.declared.fault.EngineFault.{EngineFault}
use Rattle.rme_line_io.specs.declared.fault.EngineFault.TheVariants.{WriteFailed, NoMemory}
use Rattle.rme_line_io.specs.Pieces.{InputLine, text, too_long}
use Rattle.rme_line_io.specs.BufferedWrites.{WritesPrefix, BufferedWrite}
use Rattle.rme_session_loop.specs.declared.attempt_error.AnswerError.{AnswerError}
use Rattle.rme_session_loop.specs.declared.attempt_error.AnswerError.TheVariants as error
use Rattle.rme_session_loop.specs.declared.attempt_error.AttemptError.{AttemptError}
use Rattle.rme_session_loop.specs.declared.attempt_error.AttemptError.TheVariants as attempt

-- The order that a line is, given the names of the locks and the largest job number, or why it is refused.
abbrev pub parsed_order : List (List ℕ) → ℕ → InputLine → Result Order Refusal
parsed_order names most too_long = Err LineTooLong
parsed_order names most (text bytes) = ok_or (order_of_line names most bytes) BadLine

-- Why a line has no answer, by why its order has no reply.
abbrev pub answer_error : AttemptError → AnswerError
answer_error attempt.NoMemory = error.NoMemory
answer_error attempt.NotLogged = error.NotLogged

-- The fault that ends the session of a line without an answer.
abbrev pub session_fault : AnswerError → EngineFault
session_fault error.NoMemory = NoMemory
session_fault error.WriteFailed = WriteFailed
session_fault error.NotLogged = NoMemory

-- What was written of the buffered answers when a line has no answer: if the writer failed, a prefix of them; else
-- perhaps all, and the others are still buffered.
abbrev pub AnswerFailure : AnswerError → Option (List ℕ) → List ℕ → Option (List ℕ) → List ℕ → Type 0
AnswerFailure error.WriteFailed held kept holds keeps = WritesPrefix held holds kept
AnswerFailure why held kept holds keeps = BufferedWrite held kept [] holds keeps

-- A further attempt may be made at an order with this reply: it attaches a worker that another session has, or its job
-- waits.
abbrev pub MayContinueOrder : Order → SessionReply → Type 0
MayContinueOrder (Attach asked) answer = answer ≡ Refused Taken
MayContinueOrder its answer = is_still_waiting answer ≡ true
