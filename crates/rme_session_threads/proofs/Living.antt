-- The life of a session's worker.
use Rattle.std.proofs.Common.{◌≡◌, ℕ, ◌∙◌, refl, subst, sym}
use Rattle.std.specs.Prelude.{◌==◌, Bool, true, false, List, Option, Some, None, IsSome}
use Rattle.rme_words.specs.declared.shape.Shape.{Shape}
use Rattle.rme_program.specs.declared.note.Entry.{Entry}
use Rattle.rme_program.specs.declared.note.Receipt.{Receipt}
use Rattle.rme_script.specs.declared.job.Job.{Job}
use Rattle.rme_service_steps.specs.declared.seat_record.Part.{Part}
use Rattle.rme_service_steps.specs.SeatViews.{ServiceId, SeatView}
use Rattle.rme_session_protocol.specs.declared.reply.JobOutcome.{JobOutcome}
use Rattle.rme_session_protocol.specs.declared.reply.JobOutcome.TheVariants as outcome
use Rattle.rme_session_protocol.specs.declared.reply.FencingToken.{FencingToken}
use Rattle.rme_session_protocol.specs.declared.reply.SessionReply.{SessionReply}
use Rattle.rme_session_protocol.specs.declared.reply.SessionReply.TheVariants as reply
use Rattle.rme_session_protocol.specs.declared.order.Attachment.{Attachment}
use Rattle.rme_session_protocol.specs.declared.order.Order.{Order}
use Rattle.rme_session_protocol.specs.declared.order.Order.TheVariants as order
use Rattle.rme_session_protocol.specs.declared.order.Submission.{Submission}
use Rattle.rme_session_protocol.specs.declared.view.PendingWorker.{PendingWorker}
use Rattle.rme_session_protocol.specs.declared.view.ReadyWorker.{ReadyWorker}
use Rattle.rme_session_protocol.specs.declared.view.Session as shown
use Rattle.rme_session_protocol.specs.declared.view.Session.TheVariants as at
use Rattle.rme_session_protocol.specs.SessionSteps as sight
use Rattle.rme_session_threads.specs.Attaching.{AttachAnswer}
use Rattle.rme_session_threads.specs.JobOutcomes.{HasKnownPlace, OwnStepsThenLoad, TellsWorkerSection, outcome_in_life, part_when_told, token_in_life}
use Rattle.rme_session_threads.specs.Lives.{BeginsLife}
use Rattle.rme_session_threads.specs.Stands.{held_worker, holding_session, stand_view}
use Rattle.rme_session_threads.specs.ThreadSteps.{EnterEntries, EntersWithoutEntry, KeepsLife, OrderLife, ReadyEnterEntries, ThreadOrderExecution, stand_change}
use Rattle.rme_session_threads.specs.declared.stand.Holding.{Holding}
use Rattle.rme_session_threads.specs.declared.stand.Holding.TheVariants.{Empty, Ready, Climb, Held}
use Rattle.rme_session_threads.specs.declared.stand.Stand.{Stand as Session}

-- An attach that is not refused begins a life.
pub begins_life : (ident : ServiceId) (worker : ℕ) (asked : Attachment) (old now : Session) (answer : SessionReply) → (counted : ℕ) × BeginsLife asked.after counted now.life
    → AttachAnswer ident worker now.value answer → OrderLife (order.Attach asked) old now answer
begins_life ident worker asked old now (reply.Attached number stance) begins answers = begins
begins_life ident worker asked old now answer begins answers = absurd answers

-- An outcome that tells the life is otherwise the same.
pub enters_life : (its : Submission) (old now : Session) (became : JobOutcome) → KeepsLife old now → OrderLife (order.Enter its) old now (reply.Entered (outcome_in_life old.life became))
enters_life its old now (outcome.Receipt receipt) keeps = keeps
enters_life its old now outcome.Withdrawn keeps = keeps
enters_life its old now outcome.Waiting keeps = keeps
enters_life its old now outcome.Fell keeps = keeps
enters_life its old now (outcome.Inside token) keeps = (keeps, refl)

module _ (life : ℕ) (token : FencingToken) where
  abbrev told : JobOutcome
  told = outcome.Inside token

  abbrev living : JobOutcome
  living = outcome.Inside (token_in_life life token)

  pending_told : (start : PendingWorker) (now : shown.Session) → sight.EnterPendingEffect start now told → sight.EnterPendingEffect start now living
  pending_told start (at.Held pending) enters = enters
  pending_told start now enters = absurd enters

  not_last : (last : Option Receipt) → told ≡ sight.last_outcome last → ⊥
  not_last None same = cc
  not_last (Some receipt) same = cc

  ready_told : (again : Bool) (ready : ReadyWorker) (job : Job) (now : shown.Session) → sight.ReadyEnterEffect again ready job now told → sight.ReadyEnterEffect again ready job now living
  ready_told true ready job now enters = absurd (not_last ready.last enters.1)
  ready_told false ready job now enters = pending_told _ now enters

  order_told : (made : ℕ) (old : shown.Session) (its : Submission) (now : shown.Session) → sight.EnterOrderEffect made old its now told → sight.EnterOrderEffect made old its now living
  order_told made at.Nobody its now enters = absurd enters
  order_told made (at.Ready ready) its now enters = ready_told (its.number == ready.number) ready its.job now enters
  order_told made (at.Climb pending) its now enters = pending_told pending now enters
  order_told made (at.Held pending) its now enters = enters

  without_told : (before : List Entry) (now : Holding) → EntersWithoutEntry before now told → EntersWithoutEntry before now living
  without_told before (Held held) enters = enters
  without_told before now enters = absurd enters

  ready_entries_told : (shape : Shape) (again : Bool) (ready : SeatView) (now : Holding) → ReadyEnterEntries shape again ready now told → ReadyEnterEntries shape again ready now living
  ready_entries_told shape true ready now enters = absurd enters
  ready_entries_told shape false ready now enters = without_told ready.part.entries now enters

  entries_told : (shape : Shape) (old : Holding) (its : Submission) (now : Holding) → EnterEntries shape old its now told → EnterEntries shape old its now living
  entries_told shape Empty its now enters = absurd enters
  entries_told shape (Ready ready) its now enters = ready_entries_told shape (its.number == ready.part.private.begun) ready now enters
  entries_told shape (Climb climb) its now enters = without_told climb.part.entries now enters
  entries_told shape (Held held) its now enters = enters

  steps_told : (shape : Shape) (lead : Part → Part) (old now : Option SeatView) (made : ℕ) → OwnStepsThenLoad shape lead (part_when_told told) old now made → OwnStepsThenLoad shape lead (part_when_told living) old now made
  steps_told shape lead (Some start) (Some end) made went =
      record { ident = went.ident; own = went.own; values = went.values; walk = went.walk; found = went.found; count = went.count; steps = went.steps }
  steps_told shape lead (Some start) None made went = absurd went
  steps_told shape lead None now made went = absurd went

  section_told : (shape : Shape) (value : Holding) → TellsWorkerSection shape value (reply.Entered told) → TellsWorkerSection shape value (reply.Entered living)
  section_told shape Empty tells = tt
  section_told shape (Ready ready) tells = tt
  section_told shape (Climb climb) tells = tt
  section_told shape (Held held) tells = tells

  place_told : (start : Holding) → HasKnownPlace start living
  place_told Empty = tt
  place_told (Ready ready) = tt
  place_told (Climb climb) = tt
  place_told (Held held) = tt

module _ (ident : ServiceId) (count : ℕ) (old now : Session) (let_go : Option SeatView) (its : Submission) (life : ℕ) where
  abbrev Enters : JobOutcome → Type 0
  Enters became = ThreadOrderExecution ident count (stand_change old now let_go) (order.Enter its) (reply.Entered became)

  inside_told : (token : FencingToken) → Enters (outcome.Inside token) → Enters (outcome.Inside (token_in_life life token))
  inside_told token acts = record {
    made = acts.made;
    before = acts.before;
    after = acts.after;
    obeys = (acts.obeys.0, (order_told life token acts.made (holding_session acts.before old.value) its (holding_session acts.after now.value) acts.obeys.1.0, acts.obeys.1.1, acts.obeys.1.2));
    told_before = acts.told_before;
    told_after = acts.told_after;
    adds = (entries_told life token ident.shape old.value its now.value acts.adds.0, (steps_told life token ident.shape _ (held_worker old.value) (held_worker now.value) acts.made acts.adds.1.0, acts.adds.1.1));
    section = section_told life token ident.shape now.value acts.section;
    place = place_told life token old.value;
  }

  pub enters_told : (became : JobOutcome) → Enters became → Enters (outcome_in_life life became)
  enters_told (outcome.Receipt receipt) acts = acts
  enters_told outcome.Withdrawn acts = acts
  enters_told outcome.Waiting acts = acts
  enters_told outcome.Fell acts = acts
  enters_told (outcome.Inside token) acts = inside_told token acts

-- A token tells the life that the session has.
tells_so : (life : ℕ) (value : Holding) (answer : SessionReply) → ((token : FencingToken) → answer ≡ reply.Entered (outcome.Inside token) → IsSome (held_worker value) → token.life ≡ life)
    → sight.TellsLife (λ (worker its : ℕ). its ≡ life) (holding_session None value) answer
tells_so life (Held held) (reply.Entered (outcome.Inside token)) has = has token refl refl
tells_so life Empty answer has = tt
tells_so life (Ready ready) answer has = tt
tells_so life (Climb climb) answer has = tt
tells_so life (Held held) answer has = tt

module _ (shape : Shape) (made : ℕ) (before after : Option Receipt) (old now : Session) where
  abbrev Obeys : Order → SessionReply → Type 0
  Obeys its answer = sight.SessionStepInSteps shape made (stand_view before old) its (stand_view after now) answer

  token_life : (its : Order) (token : FencingToken) → Obeys its (reply.Entered (outcome.Inside token)) → OrderLife its old now (reply.Entered (outcome.Inside token)) → IsSome (held_worker now.value) → token.life ≡ now.life
  token_life (order.Enter its) token obeys (keeps, same) some = same ∙ sym (keeps some)
  token_life its token obeys life some = absurd obeys.1

  pub told_life : (its : Order) (answer : SessionReply) → Obeys its answer → OrderLife its old now answer → sight.TellsLife (λ (worker life : ℕ). life ≡ now.life) (holding_session None now.value) answer
  told_life its answer obeys life =
      let O : SessionReply → Type 0 = λ said. Obeys its said in
      let L : SessionReply → Type 0 = λ said. OrderLife its old now said in
      tells_so now.life now.value answer (λ token same some. token_life its token (subst O same obeys) (subst L same life) some)
