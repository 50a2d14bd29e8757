-- The life in a reply of a session, and an order without its own.
use Rattle.std.proofs.Common.{◌≡◌, ℕ, inl, inr, lt-ltb, refl, subst, sym, ◌∙◌}
use Rattle.std.proofs.lemmas.Bool.{cases_Bool}
use Rattle.std.proofs.lemmas.Option.{none-some}
use Rattle.std.specs.Prelude.{◌==◌, Bool, true, false, IsSome, List, Option, Some, None, if◌then◌else◌, nat_lt}
use Rattle.rme_words.specs.declared.shape.Shape.{Shape}
use Rattle.rme_words.specs.declared.refusal.Refusal.TheVariants.{NoWorker, Overtaken}
use Rattle.rme_program.specs.declared.note.Receipt.{Receipt}
use Rattle.rme_script.specs.declared.job.Job.{Job}
use Rattle.rme_world.specs.WorldViews.{WorldView}
use Rattle.rme_session_world.specs.Executors.{executor_session_view}
use Rattle.rme_session_world.specs.ExecutorStates.{ExecutorState}
use Rattle.rme_session_world.specs.declared.executor.SessionState.{SessionState}
use Rattle.rme_session_protocol.specs.Attempts.{with_tries}
use Rattle.rme_session_protocol.specs.Refusals.{ServiceSizes}
use Rattle.rme_session_protocol.specs.SessionSteps.{EnterOrderEffect, EnterPendingEffect, ReadyEnterEffect, SessionStepWithin, TellsLife, TellsPlace, TellsSection, last_outcome}
use Rattle.rme_session_protocol.specs.SessionViews.{next_worker_job, waiting_worker}
use Rattle.rme_session_protocol.specs.declared.order.Attachment.{Attachment}
use Rattle.rme_session_protocol.specs.declared.order.Order.{Order}
use Rattle.rme_session_protocol.specs.declared.order.Order.TheVariants as order
use Rattle.rme_session_protocol.specs.declared.order.Submission.{Submission}
use Rattle.rme_session_protocol.specs.declared.planned_crash.PlannedCrash.{PlannedCrash}
use Rattle.rme_session_protocol.specs.declared.reply.FencingToken.{FencingToken}
use Rattle.rme_session_protocol.specs.declared.reply.JobOutcome.TheVariants as outcome
use Rattle.rme_session_protocol.specs.declared.reply.SessionReply.{SessionReply}
use Rattle.rme_session_protocol.specs.declared.reply.SessionReply.TheVariants as reply
use Rattle.rme_session_protocol.specs.declared.view.PendingWorker.{PendingWorker}
use Rattle.rme_session_protocol.specs.declared.view.ReadyWorker.{ReadyWorker}
use Rattle.rme_session_protocol.specs.declared.view.Session.{Session}
use Rattle.rme_session_protocol.specs.declared.view.Session.TheVariants.{Nobody, Ready, Climb, Held}
use Rattle.rme_session_protocol.specs.declared.view.SessionView.{SessionView}
use Rattle.rme_durable_format.specs.Lives.{life_of}
use Rattle.rme_durable_epochs.specs.ClientLives.{IsOvertaken, IsRestartedAfter, TellsClientLife, TellsOvertaken, with_life, without_after}
use Rattle.rme_durable_epochs.specs.ClientValues.{client_sizes, client_view, next_client_place, numbers_for}
use Rattle.rme_durable_epochs.specs.EpochStates.{ExecutorSession, SessionStepAcrossCheckpoints, TellsClientPlace, TellsClientSection, executor_session}
use Rattle.rme_durable_epochs.specs.declared.epoch_base.Base.{Base}

-- ---- the life in a reply

-- A token with another life.
abbrev living : FencingToken → ℕ → FencingToken
living token life = record { lock = token.lock; number = token.number; section = token.section; life = life }

no_token : (token : FencingToken) (last : Option Receipt) → outcome.Inside token ≡ last_outcome last → ⊥
no_token token (Some receipt) same = cc
no_token token None same = cc

pending_lives : (start : PendingWorker) (session : Session) (token : FencingToken) (life : ℕ) → EnterPendingEffect start session (outcome.Inside token) → EnterPendingEffect start session (outcome.Inside (living token life))
pending_lives start Nobody token life enters = enters
pending_lives start (Ready ready) token life enters = enters
pending_lives start (Climb pending) token life enters = enters
pending_lives start (Held pending) token life enters = enters

ready_lives : (again : Bool) (ready : ReadyWorker) (job : Job) (session : Session) (token : FencingToken) (life : ℕ) → ReadyEnterEffect again ready job session (outcome.Inside token) → ReadyEnterEffect again ready job session (outcome.Inside (living token life))
ready_lives true ready job session token life enters = absurd (no_token token ready.last enters.1)
ready_lives false ready job session token life enters = pending_lives (waiting_worker (next_worker_job ready job)) session token life enters

enter_lives : (made : ℕ) (start : Session) (its : Submission) (session : Session) (token : FencingToken) (life : ℕ) → EnterOrderEffect made start its session (outcome.Inside token) → EnterOrderEffect made start its session (outcome.Inside (living token life))
enter_lives made Nobody its session token life enters = enters
enter_lives made (Ready ready) its session token life enters = ready_lives (its.number == ready.number) ready its.job session token life enters
enter_lives made (Climb pending) its session token life enters = pending_lives pending session token life enters
enter_lives made (Held pending) its session token life (none, is, enters) = (none, is, pending_lives pending (Held pending) token life enters)

token_lives : (sizes : ServiceSizes) (made : ℕ) (old : SessionView) (its : Order) (now : SessionView) (token : FencingToken) (life : ℕ) → SessionStepWithin sizes made old its now (reply.Entered (outcome.Inside token)) → SessionStepWithin sizes made old its now (reply.Entered (outcome.Inside (living token life)))
token_lives sizes made old (order.Enter its) now token life (may, (does, plan, waits)) = (may, (enter_lives made old.session its now.session token life does, plan, waits))
token_lives sizes made old its now token life step = step

reply_lives : (sizes : ServiceSizes) (made : ℕ) (old : SessionView) (its : Order) (now : SessionView) (lives : List ℕ) (session : Session) (answer : SessionReply) → SessionStepWithin sizes made old its now answer → SessionStepWithin sizes made old its now (with_life lives session answer)
reply_lives sizes made old its now lives (Held pending) (reply.Entered (outcome.Inside token)) step = token_lives sizes made old its now token (life_of lives pending.worker) step
reply_lives sizes made old its now lives session answer step = step

section_lives : (Has : ℕ → ℕ → Type 0) (told session : Session) (lives : List ℕ) (answer : SessionReply) → TellsSection Has told answer → TellsSection Has told (with_life lives session answer)
section_lives Has (Held pending) (Held its) lives (reply.Entered (outcome.Inside token)) tells = tells
section_lives Has told (Held its) lives (reply.Entered (outcome.Inside token)) tells = tt
section_lives Has told session lives answer tells = tells

place_lives : (Has : ℕ → ℕ → Type 0) (session : Session) (lives : List ℕ) (answer : SessionReply) → TellsPlace Has answer → TellsPlace Has (with_life lives session answer)
place_lives Has (Held its) lives (reply.Entered (outcome.Inside token)) tells = tt
place_lives Has session lives answer tells = tells

lives_there : (lives : List ℕ) (session : Session) (its : SessionReply) → TellsLife (λ worker life. life_of lives worker ≡ life) session (with_life lives session its)
lives_there lives (Held pending) (reply.Entered (outcome.Inside token)) = refl
lives_there lives session its = tt

-- The reply with the life tells the life.
pub tells_life : (lives : List ℕ) (now : ExecutorSession) (answer told : SessionReply) → told ≡ with_life lives (executor_session_view now.executor now.session).session answer → TellsClientLife lives now told
tells_life lives now answer told is = subst (TellsClientLife lives now) (sym is) (lives_there lives (executor_session_view now.executor now.session).session answer)

-- It tells the same section and the same place.
pub tells_section : (base : Base) (lives : List ℕ) (now : ExecutorSession) (answer told : SessionReply) → told ≡ with_life lives (executor_session_view now.executor now.session).session answer → TellsClientSection base now answer → TellsClientSection base now told
tells_section base lives now answer told is tells =
    subst (TellsClientSection base now) (sym is) (section_lives (λ lock section. next_client_place base now.executor.world lock ≡ section) (client_view base (executor_session_view now.executor now.session)).session (executor_session_view now.executor now.session).session lives answer tells)

pub tells_place : (base : Base) (before : WorldView) (lives : List ℕ) (session : Session) (answer told : SessionReply) → told ≡ with_life lives session answer → TellsClientPlace base before answer → TellsClientPlace base before told
tells_place base before lives session answer told is tells =
    subst (TellsClientPlace base before) (sym is) (place_lives (λ lock section. next_client_place base before lock ≡ section) session lives answer tells)

-- ---- an order without its life

same_numbers : (base : Base) (session : Session) (its : Order) → numbers_for base session (without_after its) ≡ numbers_for base session its
same_numbers base Nobody (order.Attach asked) = refl
same_numbers base Nobody its = refl
same_numbers base session its = refl

step_after : (sizes : ServiceSizes) (made : ℕ) (old : SessionView) (its : Order) (now : SessionView) (answer : SessionReply) → SessionStepWithin sizes made old (with_tries 1 (without_after its)) now answer → SessionStepWithin sizes made old (with_tries 1 its) now answer
step_after sizes made old (order.Attach asked) now (reply.Refused Overtaken) (same, inl refuses) = (same, inl refuses)
step_after sizes made old (order.Attach asked) now (reply.Refused Overtaken) (same, inr misses) = absurd (let no : false ≡ true = misses.1 in cc)
step_after sizes made old (order.Attach asked) now answer step = step
step_after sizes made old its now answer step = step

-- A step of the order without its life is one of the order, and with the life in its reply it still is.
pub steps_life : (base : Base) (before : ExecutorSession) (its : Order) (after : ExecutorSession) (lives : List ℕ) (answer told : SessionReply) → told ≡ with_life lives (executor_session_view after.executor after.session).session answer
    → SessionStepAcrossCheckpoints base before (without_after its) after answer → SessionStepAcrossCheckpoints base before its after told
steps_life base before its after lives answer told is (made, step) =
    let seen = executor_session_view before.executor before.session in
    let left = executor_session_view after.executor after.session in
    let S : ℕ → Type 0 = λ n. SessionStepWithin (client_sizes n before.executor.world.shape) made (client_view base seen) (with_tries 1 (without_after its)) (client_view base left) answer in
    let sizes = client_sizes (numbers_for base seen.session its) before.executor.world.shape in
    let with_it = step_after sizes made (client_view base seen) its (client_view base left) answer (subst S (same_numbers base seen.session its) step) in
    (made, subst (λ r. SessionStepWithin sizes made (client_view base seen) (with_tries 1 its) (client_view base left) r) (sym is) (reply_lives sizes made (client_view base seen) (with_tries 1 its) (client_view base left) lives left.session answer with_it))

-- ---- an attachment that comes too late

restarted_some : (lives : List ℕ) (worker : ℕ) (after : Option ℕ) → IsRestartedAfter lives worker after → IsSome after
restarted_some lives worker None later = absurd later
restarted_some lives worker (Some life) later = refl

overtaken_step : (base : Base) (shape : Shape) (lives : List ℕ) (session : Session) (planned : PlannedCrash) (its : Order) → IsOvertaken lives shape.workers session its
    → SessionStepWithin (client_sizes (numbers_for base session its) shape) 0 (client_view base record { session = session; planned = planned }) (with_tries 1 its) (client_view base record { session = session; planned = planned }) (reply.Refused Overtaken)
overtaken_step base shape lives Nobody planned (order.Attach asked) (within, later) = (refl, inr (rw (lt-ltb asked.worker shape.workers within) refl, restarted_some lives asked.worker asked.after later))
overtaken_step base shape lives session planned its late = absurd late

pub steps_overtaken : (base : Base) (lives : List ℕ) (executor : ExecutorState) (stand : SessionState) (its : Order) → IsOvertaken lives executor.world.shape.workers (executor_session_view executor stand).session its
    → SessionStepAcrossCheckpoints base (executor_session executor stand) its (executor_session executor stand) (reply.Refused Overtaken)
steps_overtaken base lives executor stand its late = (0, overtaken_step base executor.world.shape lives (executor_session_view executor stand).session (executor_session_view executor stand).planned its late)

pub tells_overtaken : (lives : List ℕ) (workers : ℕ) (session : Session) (its : Order) → IsOvertaken lives workers session its → TellsOvertaken lives workers session its (reply.Refused Overtaken)
tells_overtaken lives workers Nobody (order.Attach asked) late = ((λ is. late), (λ is. refl))
tells_overtaken lives workers session its late = tt

-- An order without its life is not refused for it.
not_refused : (workers worker : ℕ) → Some Overtaken ≡ (if nat_lt worker workers then None else Some NoWorker) → ⊥
not_refused workers worker is = elim (cases_Bool (nat_lt worker workers)) [
  | inl few ↦ (let none : (if nat_lt worker workers then None else Some NoWorker) ≡ None = rw few refl in none-some Overtaken (sym none ∙ sym is))
  | inr many ↦ (let no : (if nat_lt worker workers then None else Some NoWorker) ≡ Some NoWorker = rw many refl in let same : Some Overtaken ≡ Some NoWorker = is ∙ no in cc)
]

never_overtaken : (base : Base) (numbers : ℕ) (shape : Shape) (made : ℕ) (planned : PlannedCrash) (asked : Attachment) (now : SessionView)
    → SessionStepWithin (client_sizes numbers shape) made (client_view base record { session = Nobody; planned = planned }) (with_tries 1 (without_after (order.Attach asked))) now (reply.Refused Overtaken) → ⊥
never_overtaken base numbers shape made planned asked now (same, inl refuses) = not_refused shape.workers asked.worker refuses
never_overtaken base numbers shape made planned asked now (same, inr misses) = let no : false ≡ true = misses.1 in cc

unliving : (lives : List ℕ) (session : Session) (answer : SessionReply) → with_life lives session answer ≡ reply.Refused Overtaken → answer ≡ reply.Refused Overtaken
unliving lives (Held pending) (reply.Entered (outcome.Inside token)) is = absurd (cc)
unliving lives session answer is = is

current_tells : (base : Base) (lives now_lives : List ℕ) (shape : Shape) (session left : Session) (planned : PlannedCrash) (its : Order) (made : ℕ) (now : SessionView) (answer : SessionReply) → (IsOvertaken lives shape.workers session its → ⊥)
    → SessionStepWithin (client_sizes (numbers_for base session (without_after its)) shape) made (client_view base record { session = session; planned = planned }) (with_tries 1 (without_after its)) now answer
    → TellsOvertaken lives shape.workers session its (with_life now_lives left answer)
current_tells base lives now_lives shape Nobody left planned (order.Attach asked) made now answer not_late step =
    let S : SessionReply → Type 0 = λ r. SessionStepWithin (client_sizes (numbers_for base Nobody (without_after (order.Attach asked))) shape) made (client_view base record { session = Nobody; planned = planned }) (with_tries 1 (without_after (order.Attach asked))) now r in
    ((λ is. absurd (never_overtaken base (numbers_for base Nobody (without_after (order.Attach asked))) shape made planned asked now (subst S (unliving now_lives left answer is) step))), (λ late. absurd (not_late late)))
current_tells base lives now_lives shape session left planned its made now answer not_late step = tt

pub tells_current : (base : Base) (lives now_lives : List ℕ) (before : ExecutorSession) (its : Order) (after : ExecutorSession) (answer told : SessionReply) → told ≡ with_life now_lives (executor_session_view after.executor after.session).session answer
    → (IsOvertaken lives before.executor.world.shape.workers (executor_session_view before.executor before.session).session its → ⊥)
    → SessionStepAcrossCheckpoints base before (without_after its) after answer → TellsOvertaken lives before.executor.world.shape.workers (executor_session_view before.executor before.session).session its told
tells_current base lives now_lives before its after answer told is not_late (made, step) =
    let seen = executor_session_view before.executor before.session in
    subst (TellsOvertaken lives before.executor.world.shape.workers seen.session its) (sym is)
    (current_tells base lives now_lives before.executor.world.shape seen.session (executor_session_view after.executor after.session).session seen.planned its made (client_view base (executor_session_view after.executor after.session)) answer not_late step)
