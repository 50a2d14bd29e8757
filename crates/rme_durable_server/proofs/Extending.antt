-- Orders that are executed try by try.
use Rattle.std.proofs.Common.{◌≡◌, ◌+◌, ℕ, List, zero, suc, true, false, refl, subst, inl, inr, arith}
use Rattle.std.specs.Prelude.{Bool, IfOk, OnOk, Result, Ok, Err}
use Rattle.rme_session_loop.specs.OrderRuns.{IsReplyOfTries}
use Rattle.rme_session_loop.specs.SessionAnswers.{MayContinueOrder}
use Rattle.rme_session_protocol.specs.declared.order.Order.TheVariants.{Attach}
use Rattle.rme_session_protocol.specs.SessionLines.{session_reply_line}
use Rattle.rme_session_protocol.specs.Attempts.{merged_reply, retry_order}
use Rattle.rme_session_protocol.specs.declared.order.Order.{Order}
use Rattle.rme_session_protocol.specs.declared.reply.SessionReply.{SessionReply}
use Rattle.rme_session_protocol.specs.declared.reply.SessionReply.TheVariants.{Refused}
use Rattle.rme_words.specs.declared.refusal.Refusal.TheVariants.{NoWorker}
use Rattle.std.proofs.lemmas.Result.{IfOk-at_ok}
use Rattle.rme_durable_log.specs.StoreCalls.{StoreState}
use Rattle.rme_durable_log.specs.Logs.{IsCommitted}
use Rattle.rme_durable_server.specs.DurableOrders.{IsAnswerUnfinished, DurableOrder, DurableAttempt, DurableTries, asks_checkpoint_worker, client_terms}
use Rattle.rme_durable_server.specs.DurableAnswers.{DurableLineReply, ask_order}
use Rattle.rme_durable_server.specs.ServerHistories.{ServerOpening, SessionMoment}

-- An order that may be tried again is unfinished.
unfinished : (its : Order) (first : SessionReply) → MayContinueOrder its first → IsAnswerUnfinished first
unfinished (Attach asked) first may = inr may
unfinished its first may = inl may

-- One try more.
pub retried : (opening : ServerOpening) (its next : Order) (old mid now : SessionMoment)
    (first last told : SessionReply) (tries : ℕ)
    → MayContinueOrder its first → next ≡ retry_order its
    → DurableAttempt opening mid next now last → told ≡ merged_reply first last → DurableTries opening tries old its mid first → DurableTries opening (tries + 1) old its now told
retried opening its next old mid now first last told zero may is attempt so executed = absurd executed
retried opening its next old mid now first last told (suc more) may is attempt so executed =
    let one : suc (suc more) ≡ suc more + 1 = omega arith in
    subst (λ (tries : ℕ). DurableTries opening tries old its now told) one
    (mid, first, last, executed, unfinished its first may, subst (λ (o : Order). DurableAttempt opening mid o now last) is attempt, so)

order_of_tries : {R : Type 0} (opening : ServerOpening) (old : SessionMoment) (its : Order) (now : SessionMoment)
    (says : R → SessionReply) (stops : ℕ → R → Type 0) (reply : R)
    → IsReplyOfTries (λ (tries : ℕ). λ (r : R). DurableTries opening tries old its now (says r)) stops reply → DurableOrder opening old its now (says reply)
order_of_tries opening old its now says stops reply (zero, some, executed, may_stop) = absurd executed
order_of_tries opening old its now says stops reply (suc more, some, executed, may_stop) = (more, executed)

pub order_at : {R E : Type 0} (replied : Result R E) (reply : R) (says : R → SessionReply) (stops : ℕ → R → Type 0)
    (opening : ServerOpening) (old : SessionMoment) (its : Order) (now : SessionMoment)
    → replied ≡ Ok reply → IfOk replied (IsReplyOfTries (λ (tries : ℕ). λ (r : R). DurableTries opening tries old its now (says r)) stops) → DurableOrder opening old its now (says reply)
order_at {R} replied reply says stops opening old its now is executed =
    let P : R → Type 0 = IsReplyOfTries (λ (tries : ℕ). λ (r : R). DurableTries opening tries old its now (says r)) stops in
    order_of_tries opening old its now says stops reply (IfOk-at_ok P is executed)

-- The answer to an order that asks for another worker or for none, by its reply, once everything before its moment is
-- durable.
pub says_it : {A E X : Type 0} (result : Result A E) (holds : X → StoreState) (clients : ℕ) (shared : Bool) (opening : ServerOpening)
    (old : SessionMoment) (its : Order) (reply : SessionReply) (bytes : List ℕ) (now : SessionMoment)
    → asks_checkpoint_worker clients its ≡ false → DurableOrder opening old its now reply → OnOk result (bytes ≡ session_reply_line opening.names reply) → OnOk result (IsCommitted shared holds now.log)
    → OnOk result (DurableLineReply holds (client_terms clients shared opening) old (ask_order its) bytes now)
says_it (Ok value) holds clients shared opening old its reply bytes now other served says held = (reply, inr (other, served, held), says)
says_it (Err error) holds clients shared opening old its reply bytes now other served says held = says

-- The answer to an order that asks for the checkpoint worker.
pub refuses_it : {A E X : Type 0} (result : Result A E) (holds : X → StoreState) (clients : ℕ) (shared : Bool)
    (opening : ServerOpening) (old : SessionMoment) (its : Order) (bytes : List ℕ) (now : SessionMoment)
    → asks_checkpoint_worker clients its ≡ true → now ≡ old
    → OnOk result (bytes ≡ session_reply_line opening.names (Refused NoWorker)) → OnOk result (DurableLineReply holds (client_terms clients shared opening) old (ask_order its) bytes now)
refuses_it (Ok value) holds clients shared opening old its bytes now is same says = (Refused NoWorker, inl (is, refl, same), says)
refuses_it (Err error) holds clients shared opening old its bytes now is same says = says
