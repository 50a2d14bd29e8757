-- The receipt of a commit is that of the token that was told before.
use Rattle.std.proofs.Common.{◌≡◌, ℕ, refl, sym, ap, subst, ◌∙◌}
use Rattle.std.specs.Prelude.{Option, Some, None, IsSome}
use Rattle.std.proofs.lemmas.Option.{none-some, same_Some}
use Rattle.rme_words.specs.declared.shape.Shape.{Shape}
use Rattle.rme_script.specs.declared.job.Job.{Job}
use Rattle.rme_program.specs.declared.note.Receipt.{Receipt}
use Rattle.rme_service_steps.specs.declared.seat_record.Part.{Part}
use Rattle.rme_service_steps.specs.SeatViews.{ServiceId, SeatView}
use Rattle.rme_session_protocol.specs.Refusals.{commit_refusal}
use Rattle.rme_session_protocol.specs.SessionSteps.{CommitOrderEffect, TellsLife, TellsSection}
use Rattle.rme_session_protocol.specs.declared.order.Order.TheVariants as order
use Rattle.rme_session_protocol.specs.declared.order.Submission.{Submission}
use Rattle.rme_session_protocol.specs.declared.reply.FencingToken.{FencingToken}
use Rattle.rme_session_protocol.specs.declared.reply.JobOutcome.TheVariants as outcome
use Rattle.rme_session_protocol.specs.declared.reply.SessionReply.TheVariants as reply
use Rattle.rme_session_protocol.specs.declared.view.Session.TheVariants as at
use Rattle.rme_session_threads.specs.JobOutcomes.{HasKnownPlace, OwnStepsThenLoad, WorkerHasSection, part_when_told, submit_lead}
use Rattle.rme_session_threads.specs.Stands.{held_worker, holding_session, pending_worker_of}
use Rattle.rme_session_threads.specs.ThreadSteps.{ThreadSessionStep}
use Rattle.rme_session_threads.specs.declared.stand.Holding.{Holding}
use Rattle.rme_session_threads.specs.declared.stand.Holding.TheVariants.{Empty, Ready, Climb, Held}
use Rattle.rme_session_threads.specs.declared.stand.Stand.{Stand}
use Rattle.rme_test_server.specs.Fencing.{IsFencedReceipt}

-- A session whose commit is not refused is inside.
is_inside : (before : Option Receipt) (value : Holding) → None ≡ commit_refusal (holding_session before value)
    → (held : SeatView) × (value ≡ Held held)
is_inside before Empty none = absurd (none-some _ none)
is_inside before (Ready ready) none = absurd (none-some _ none)
is_inside before (Climb climb) none = absurd (none-some _ none)
is_inside before (Held held) none = (held, refl)

-- A worker that has told a token knows its section.
knows_section : (shape : Shape) (lead : Part → Part) (token : FencingToken) (start : Option SeatView) (held : SeatView)
    (made : ℕ)
    → OwnStepsThenLoad shape lead (part_when_told (outcome.Inside token)) start (Some held) made
    → held.part.section ≡ Some token.section
knows_section shape lead token None held made steps = absurd steps
knows_section shape lead token (Some start) held made steps = ap (λ (part : Part). part.section) steps.walk

-- The receipt of a commit has the lock of the worker's job.
has_lock : (after : Option Receipt) (held : SeatView) (value : Holding) (receipt : Receipt)
    → CommitOrderEffect (at.Held (pending_worker_of held)) (holding_session after value) (outcome.Receipt receipt)
    → (job : Job) × (held.part.draft ≡ Some job) × (receipt.lock ≡ job.lock)
has_lock after held Empty receipt did = absurd did
has_lock after held (Ready ready) receipt did = (did.0, did.1, did.2.0.lock)
has_lock after held (Climb climb) receipt did = absurd did
has_lock after held (Held other) receipt did = absurd did

pub fenced : (ident : ServiceId) (count : ℕ) (old mid now : Stand) (its : Submission) (token : FencingToken)
    (receipt : Receipt)
    → ThreadSessionStep ident count old (order.Enter its) mid (reply.Entered (outcome.Inside token))
    → TellsSection (WorkerHasSection ident.shape (held_worker mid.value)) (holding_session None mid.value) (reply.Entered (outcome.Inside token))
    → TellsLife (λ worker life. life ≡ mid.life) (holding_session None mid.value) (reply.Entered (outcome.Inside token))
    → ThreadSessionStep ident count mid order.Commit now (reply.Committed (outcome.Receipt receipt))
    → IsFencedReceipt old.life token receipt
fenced ident count old mid now its token receipt entered section life committed =
    let inside = is_inside committed.acts.before mid.value committed.acts.obeys.0 in
    let Steps : Holding → Type 0 = λ value. OwnStepsThenLoad ident.shape (submit_lead old.value its.job) (part_when_told (outcome.Inside token)) (held_worker old.value) (held_worker value) entered.acts.made in
    let Place : Holding → Type 0 = λ value. HasKnownPlace value (outcome.Receipt receipt) in
    let Section : Holding → Type 0 = λ value. TellsSection (WorkerHasSection ident.shape (held_worker value)) (holding_session None value) (reply.Entered (outcome.Inside token)) in
    let Life : Holding → Type 0 = λ value. TellsLife (λ worker life. life ≡ mid.life) (holding_session None value) (reply.Entered (outcome.Inside token)) in
    let Keeps : Holding → Type 0 = λ value. IsSome (held_worker value) → mid.life ≡ old.life in
    let Commits : Holding → Type 0 = λ value. CommitOrderEffect (holding_session committed.acts.before value) (holding_session committed.acts.after now.value) (outcome.Receipt receipt) in
    let known = knows_section ident.shape (submit_lead old.value its.job) token (held_worker old.value) inside.0 entered.acts.made (subst Steps inside.1 entered.acts.adds.1.0) in
    let told = subst Section inside.1 section in
    let done = has_lock committed.acts.after inside.0 now.value receipt (subst Commits inside.1 committed.acts.obeys.1.0) in
    record {
      lock = done.2 ∙ (ap (λ (job : Job). job.lock) (same_Some _ _ (sym done.1 ∙ told.1)) ∙ sym told.2);
      place = subst Place inside.1 committed.acts.place token.section known;
      life_is = subst Life inside.1 life ∙ subst Keeps inside.1 entered.life.0 refl;
    }
