-- How the running service executes an order in several attempts.
use Rattle.std.specs.Prelude.{◌≡◌, ◌≤◌, ◌⊎◌, ℕ, true}
use Rattle.rme_session_protocol.specs.declared.order.Order.{Order}
use Rattle.rme_session_protocol.specs.declared.reply.SessionReply.{SessionReply}
use Rattle.rme_session_protocol.specs.Attempts.{least_patience_tries, order_patience, is_still_waiting, with_tries}
use Rattle.rme_session_threads.specs.declared.stand.Stand.{Stand}

-- An order is executed; or, once the client was found to be gone, with fewer tries than it asks for, if its job still
-- waits.
abbrev pub SessionStepUntilGone : Type 0 → (Stand → Order → Stand → SessionReply → Type 0) → Stand → Order → Stand
    → SessionReply → Type 0
SessionStepUntilGone gone executes old its now answer =
    executes old its now answer
    ⊎ (gone × (is_still_waiting answer ≡ true)
    × ((tries : ℕ) × (1 ≤ tries) × executes old (with_tries tries its) now answer))

-- An order has made all its tries: its job does not wait, or it asks for no more than this number.
abbrev pub HasMadeAllTries : ℕ → Order → SessionReply → Type 0
HasMadeAllTries tries its answer = is_still_waiting answer ≡ true → least_patience_tries (order_patience its) ≤ tries
