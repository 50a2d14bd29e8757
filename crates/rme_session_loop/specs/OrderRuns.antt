-- How an order is executed, attempt by attempt.
use Rattle.std.specs.Prelude.{◌≡◌, ◌≤◌, ◌⊎◌, ℕ, true}
use Rattle.rme_session_protocol.specs.Attempts.{is_still_waiting, least_patience_tries, order_patience}
use Rattle.rme_session_protocol.specs.declared.order.Order.{Order}
use Rattle.rme_session_protocol.specs.declared.reply.SessionReply.{SessionReply}

-- After this number of tries no further try is needed: the job does not wait, or the order asks for no more tries, or
-- the client was found to be gone.
abbrev pub MayStopAfter : Type 0 → Order → ℕ → SessionReply → Type 0
MayStopAfter gone its tries reply =
    is_still_waiting reply ≡ true → (least_patience_tries (order_patience its) ≤ tries) ⊎ gone

-- The reply is that of some number of tries, after which no further try is needed.
abbrev pub IsReplyOfTries : {R : Type 0} → (ℕ → R → Type 0) → (ℕ → R → Type 0) → R → Type 0
IsReplyOfTries executes stops reply = (tries : ℕ) × (1 ≤ tries) × executes tries reply × stops tries reply
