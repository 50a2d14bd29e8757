-- An order that is executed in parts: with its first tries, and then with one more try at a time while its job waits.
use Rattle.std.specs.Prelude.{ℕ, Bool, true, false, Option, Some, None}
use Rattle.rme_session_protocol.specs.Patience.{least_tries}
use Rattle.rme_session_protocol.specs.declared.order.Order.{Order}
use Rattle.rme_session_protocol.specs.declared.order.Order.TheVariants.{Submit, Resume, Enter}
use Rattle.rme_session_protocol.specs.declared.order.Patience.{Patience}
use Rattle.rme_session_protocol.specs.declared.order.Patience.TheVariants.{Tries}
use Rattle.rme_session_protocol.specs.declared.order.Submission.{Submission}
use Rattle.rme_session_protocol.specs.declared.reply.JobOutcome.TheVariants.{Waiting}
use Rattle.rme_session_protocol.specs.declared.reply.SessionReply.{SessionReply}
use Rattle.rme_session_protocol.specs.declared.reply.SessionReply.TheVariants.{Submitted, Resumed, Entered}

-- The same submission, and the same order, with this number of tries.
abbrev pub submission_with_tries : ℕ → Submission → Submission
submission_with_tries tries its = record { number = its.number; job = its.job; patience = Tries tries }

abbrev pub with_tries : ℕ → Order → Order
with_tries tries (Submit its) = Submit (submission_with_tries tries its)
with_tries tries (Resume patience) = Resume (Tries tries)
with_tries tries (Enter its) = Enter (submission_with_tries tries its)
with_tries tries its = its

-- One more try for the order's job, which waits.
abbrev pub retry_order : Order → Order
retry_order (Submit its) = Resume (Tries 1)
retry_order (Resume patience) = Resume (Tries 1)
retry_order (Enter its) = Enter (submission_with_tries 1 its)
retry_order its = its

-- The patience of an order, and the number of tries that it makes at least if its job waits afterwards.
abbrev pub order_patience : Order → Option Patience
order_patience (Submit its) = Some its.patience
order_patience (Resume patience) = Some patience
order_patience (Enter its) = Some its.patience
order_patience its = None

abbrev pub least_patience_tries : Option Patience → ℕ
least_patience_tries None = 0
least_patience_tries (Some patience) = least_tries patience

-- The job still waits for its lock.
abbrev pub is_still_waiting : SessionReply → Bool
is_still_waiting (Submitted Waiting) = true
is_still_waiting (Resumed Waiting) = true
is_still_waiting (Entered Waiting) = true
is_still_waiting reply = false

-- The outcome of a further part, as an answer to the order.
abbrev pub merged_reply : SessionReply → SessionReply → SessionReply
merged_reply (Submitted first) (Resumed last) = Submitted last
merged_reply first last = last
