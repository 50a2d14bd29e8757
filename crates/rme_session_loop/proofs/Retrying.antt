-- Retries of an order.
use Rattle.std.proofs.Common.{◌≡◌, ◌≤◌, ◌+◌, ℕ, true, false, arith, inl}
use Rattle.rme_session_protocol.specs.Attempts.{is_still_waiting}
use Rattle.rme_session_protocol.specs.declared.order.Attachment.{Attachment}
use Rattle.rme_session_protocol.specs.declared.order.Order.{Order}
use Rattle.rme_session_protocol.specs.declared.order.Order.TheVariants.{Attach}
use Rattle.rme_session_protocol.specs.declared.reply.SessionReply.{SessionReply}
use Rattle.rme_session_loop.specs.OrderRuns.{IsReplyOfTries, MayStopAfter}
use Rattle.rme_session_loop.specs.SessionAnswers.{MayContinueOrder}

-- An order may be tried again as long as its job waits.
pub may_again : (its : Order) (first reply : SessionReply) → MayContinueOrder its first → is_still_waiting first ≡ true
    → is_still_waiting reply ≡ true → MayContinueOrder its reply
may_again (Attach asked) first reply may waits again = cc
may_again its first reply may waits again = again

-- An order whose job does not wait needs no further try, and neither does an order that attaches a worker.
pub stops_settled : (gone : Type 0) (its : Order) (tries : ℕ) (reply : SessionReply) → is_still_waiting reply ≡ false
    → MayStopAfter gone its tries reply
stops_settled gone its tries reply not waits = cc

pub stops_attached : (gone : Type 0) (its : Order) (asked : Attachment) (tries : ℕ) (reply : SessionReply)
    → its ≡ Attach asked → MayStopAfter gone its tries reply
stops_attached gone its asked tries reply is waits = inl (rw is (omega arith))

-- One more try.
pub one_more : (E F : ℕ → Type 0) → ((tries : ℕ) → 1 ≤ tries → E tries → F (tries + 1))
    → (tries : ℕ) × (1 ≤ tries) × E tries → (tries : ℕ) × (1 ≤ tries) × F tries
one_more E F more (tries, some, done) = (tries + 1, omega arith, more tries some done)

pub with_stops : {R : Type 0} (executes stops : ℕ → R → Type 0) (reply : R) → ((tries : ℕ) → stops tries reply)
    → (tries : ℕ) × (1 ≤ tries) × executes tries reply → IsReplyOfTries executes stops reply
with_stops executes stops reply all (tries, some, done) = (tries, some, done, all tries)
