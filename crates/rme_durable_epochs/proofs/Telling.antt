-- The reply of a session is that of a session step over all epochs.
use Rattle.std.proofs.Common.{◌≡◌, ◌∙◌, ℕ, ap, subst, sym}
use Rattle.std.specs.Prelude.{Bool, true, false, Option, Some, None, if◌then◌else◌}
use Rattle.std.proofs.lemmas.Option.{none-some, same_Some}
use Rattle.rme_world.specs.WorldViews.{WorldView}
use Rattle.rme_machine.proofs.Sections.{place_count}
use Rattle.rme_session_world.specs.Executors.{owned_worker, executor_session_view}
use Rattle.rme_session_world.specs.FencingTokens.{HasFinished}
use Rattle.rme_session_world.specs.ExecutorStates.{ExecutorState}
use Rattle.rme_session_world.specs.declared.executor.SessionState.{SessionState}
use Rattle.rme_session_protocol.specs.SessionSteps.{SessionStep, SessionStepWithin, TellsPlace, TellsSection, last_outcome}
use Rattle.rme_session_protocol.specs.Attempts.{with_tries}
use Rattle.rme_session_protocol.specs.Refusals.{ServiceSizes}
use Rattle.rme_session_protocol.specs.declared.planned_crash.PlannedCrash.{PlannedCrash}
use Rattle.rme_session_protocol.specs.declared.view.Session.{Session}
use Rattle.rme_session_protocol.specs.declared.view.Session.TheVariants.{Nobody, Ready, Climb, Held}
use Rattle.rme_session_protocol.specs.declared.order.Order.{Order}
use Rattle.rme_session_protocol.specs.declared.order.Order.TheVariants as order
use Rattle.rme_session_protocol.specs.declared.reply.JobOutcome.TheVariants as outcome
use Rattle.rme_session_protocol.specs.declared.reply.SessionReply.{SessionReply}
use Rattle.rme_session_protocol.specs.declared.reply.SessionReply.TheVariants as reply
use Rattle.rme_durable_epochs.specs.EpochStates.{SessionStepAcrossCheckpoints, TellsClientPlace, TellsClientSection, executor_session}
use Rattle.rme_durable_epochs.specs.ClientValues.{numbers_for, epoch_order, client_place, client_reply, client_session, client_sizes, next_client_place}
use Rattle.rme_durable_epochs.specs.ImmediateReplies.{immediate_reply, is_repeat_submission}
use Rattle.rme_durable_epochs.specs.declared.epoch_base.Base.{Base}
use Rattle.rme_durable_epochs.proofs.Numbering.{view_numbered}
use Rattle.rme_durable_epochs.proofs.Overs.{asks_more, obeys_over, told_obeys}

told_view : (sizes : ServiceSizes) (planned : PlannedCrash) (session : Session) (its : Order) (answer : SessionReply) → immediate_reply session its ≡ Some answer
    → SessionStepWithin sizes 0 record { session = session; planned = planned } (with_tries 1 its) record { session = session; planned = planned } answer
told_view sizes planned Nobody its answer is = absurd (none-some answer is)
told_view sizes planned (Ready ready) its answer is = told_obeys sizes planned ready its answer is
told_view sizes planned (Climb pending) its answer is = absurd (none-some answer is)
told_view sizes planned (Held pending) its answer is = absurd (none-some answer is)

-- An immediate reply, without an event.
pub told_at_once : (base : Base) (executor : ExecutorState) (stand : SessionState) (its : Order) (answer : SessionReply) → immediate_reply (client_session base (executor_session_view executor stand).session) its ≡ Some answer → SessionStepAcrossCheckpoints base (executor_session executor stand) its (executor_session executor stand) answer
told_at_once base executor stand its answer is =
    (0, told_view (client_sizes (numbers_for base (executor_session_view executor stand).session its) executor.world.shape) (executor_session_view executor stand).planned (client_session base (executor_session_view executor stand).session) its answer is)

-- The world's reply, with the numbers of earlier epochs.
pub told_by_world : (base : Base) (before after : ExecutorState) (stand now : SessionState) (its : Order) (answer : SessionReply) → immediate_reply (client_session base (executor_session_view before stand).session) its ≡ None
    → SessionStep before.world.shape (executor_session_view before stand) (with_tries 1 (epoch_order (numbers_for base (executor_session_view before stand).session its) its)) (executor_session_view after now) answer
    → SessionStepAcrossCheckpoints base (executor_session before stand) its (executor_session after now) (client_reply base (numbers_for base (executor_session_view before stand).session its) answer)
told_by_world base before after stand now its answer none obeys = (
  obeys.0,
  obeys_over base before.world.shape obeys.0 (executor_session_view before stand) (executor_session_view after now) its answer (view_numbered before.world (owned_worker before stand) stand.planned)
      (asks_more base before.world.shape (executor_session_view before stand).session its none) obeys.1,
)

-- The same, for the values that the code found and computed.
pub told_as_found : (base : Base) (before after : ExecutorState) (stand now : SessionState) (its order : Order) (session : Session) (numbers : ℕ) (told : Option SessionReply) (answer reply : SessionReply)
    → session ≡ (executor_session_view before stand).session → told ≡ immediate_reply (client_session base session) its → told ≡ None → numbers ≡ numbers_for base session its → order ≡ epoch_order numbers its
    → SessionStep before.world.shape (executor_session_view before stand) (with_tries 1 order) (executor_session_view after now) answer → reply ≡ client_reply base numbers answer → SessionStepAcrossCheckpoints base (executor_session before stand) its (executor_session after now) reply
told_as_found base before after stand now its order session numbers told answer reply at is none counted within obeys over =
    let seen = (executor_session_view before stand).session in
    let nothing : immediate_reply (client_session base seen) its ≡ None = ap (λ (s : Session). immediate_reply (client_session base s) its) (sym at) ∙ sym is ∙ none in
    let same : numbers ≡ numbers_for base seen its = counted ∙ ap (λ (s : Session). numbers_for base s its) at in
    let O : Order → Type 0 = λ o. SessionStep before.world.shape (executor_session_view before stand) (with_tries 1 o) (executor_session_view after now) answer in
    let R : SessionReply → Type 0 = λ r. SessionStepAcrossCheckpoints base (executor_session before stand) its (executor_session after now) r in
    subst R (sym (over ∙ ap (λ (n : ℕ). client_reply base n answer) same))
    (told_by_world base before after stand now its answer nothing (subst O (within ∙ ap (λ (n : ℕ). epoch_order n its) same) obeys))

pub told_as_known : (base : Base) (executor : ExecutorState) (stand : SessionState) (its : Order) (session : Session) (told : Option SessionReply) (reply : SessionReply) → session ≡ (executor_session_view executor stand).session
    → told ≡ immediate_reply (client_session base session) its → told ≡ Some reply → SessionStepAcrossCheckpoints base (executor_session executor stand) its (executor_session executor stand) reply
told_as_known base executor stand its session told reply at is some =
    told_at_once base executor stand its reply (ap (λ (s : Session). immediate_reply (client_session base s) its) (sym at) ∙ sym is ∙ some)

-- ---- the fencing token

-- The token of a world is, with the numbers and places of earlier epochs, the client's.
tells_over : (base : Base) (world : WorldView) (numbers : ℕ) (session : Session) (answer : SessionReply) → TellsSection (HasFinished world) session answer
    → TellsSection (λ lock section. next_client_place base world lock ≡ section) (client_session base session) (client_reply base numbers answer)
tells_over base world numbers (Held pending) (reply.Entered (outcome.Inside token)) (job, draft, lock, finished) = (job, draft, lock, ap (client_place base token.lock) (place_count world.history token.lock ∙ finished))
tells_over base world numbers session answer tells = tt

-- An immediate reply is no token.
tells_at_once : (HasIt : ℕ → ℕ → Type 0) (session : Session) (its : Order) (answer : SessionReply) → immediate_reply session its ≡ Some answer → TellsSection HasIt session answer
tells_at_once HasIt Nobody its answer is = tt
tells_at_once HasIt (Ready ready) its answer is = tt
tells_at_once HasIt (Climb pending) its answer is = tt
tells_at_once HasIt (Held pending) its answer is = absurd (none-some answer is)

-- The same, for the values that the code found and computed.
pub tells_as_found : (base : Base) (after : ExecutorState) (now : SessionState) (numbers : ℕ) (answer reply : SessionReply) → TellsSection (HasFinished after.world) (executor_session_view after now).session answer
    → reply ≡ client_reply base numbers answer → TellsClientSection base (executor_session after now) reply
tells_as_found base after now numbers answer reply tells over =
    let R : SessionReply → Type 0 = λ r. TellsClientSection base (executor_session after now) r in
    subst R (sym over) (tells_over base after.world numbers (executor_session_view after now).session answer tells)

pub tells_as_known : (base : Base) (executor : ExecutorState) (stand : SessionState) (its : Order) (session : Session) (told : Option SessionReply) (reply : SessionReply) → session ≡ (executor_session_view executor stand).session
    → told ≡ immediate_reply (client_session base session) its → told ≡ Some reply → TellsClientSection base (executor_session executor stand) reply
tells_as_known base executor stand its session told reply at is some =
    tells_at_once (λ lock section. next_client_place base executor.world lock ≡ section) (client_session base (executor_session_view executor stand).session) its reply
    (ap (λ (s : Session). immediate_reply (client_session base s) its) (sym at) ∙ sym is ∙ some)

-- ---- the place of a receipt

places_over : (base : Base) (world : WorldView) (numbers : ℕ) (answer : SessionReply) → TellsPlace (HasFinished world) answer → TellsClientPlace base world (client_reply base numbers answer)
places_over base world numbers (reply.Committed (outcome.Receipt receipt)) tells = ap (client_place base receipt.lock) (place_count world.history receipt.lock ∙ tells)
places_over base world numbers answer tells = tt

-- An immediate reply is none to a commit.
placed_if : (HasIt : ℕ → ℕ → Type 0) (given answer : SessionReply) (again : Bool) → TellsPlace HasIt given → (if again then Some given else None) ≡ Some answer → TellsPlace HasIt answer
placed_if HasIt given answer true tells is = subst (TellsPlace HasIt) (same_Some given answer is) tells
placed_if HasIt given answer false tells is = absurd (none-some answer is)

places_at_once : (HasIt : ℕ → ℕ → Type 0) (session : Session) (its : Order) (answer : SessionReply) → immediate_reply session its ≡ Some answer → TellsPlace HasIt answer
places_at_once HasIt (Ready ready) order.Last answer is = subst (TellsPlace HasIt) (same_Some _ _ is) tt
places_at_once HasIt (Ready ready) (order.Submit its) answer is = placed_if HasIt (reply.Submitted (last_outcome ready.last)) answer (is_repeat_submission ready its) tt is
places_at_once HasIt (Ready ready) (order.Enter its) answer is = placed_if HasIt (reply.Entered (last_outcome ready.last)) answer (is_repeat_submission ready its) tt is
places_at_once HasIt session its answer is = absurd (none-some answer is)

-- The same, for the values that the code found and computed.
pub places_as_found : (base : Base) (before : WorldView) (numbers : ℕ) (answer reply : SessionReply) → TellsPlace (HasFinished before) answer → reply ≡ client_reply base numbers answer → TellsClientPlace base before reply
places_as_found base before numbers answer reply tells over = subst (TellsClientPlace base before) (sym over) (places_over base before numbers answer tells)

pub places_as_known : (base : Base) (executor : ExecutorState) (its : Order) (session : Session) (told : Option SessionReply) (reply : SessionReply) → told ≡ immediate_reply (client_session base session) its → told ≡ Some reply
    → TellsClientPlace base executor.world reply
places_as_known base executor its session told reply is some = places_at_once (λ lock section. next_client_place base executor.world lock ≡ section) (client_session base session) its reply (sym is ∙ some)
