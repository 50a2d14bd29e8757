-- An order that is executed in parts is executed.
use Rattle.std.proofs.Common.{◌≡◌, ℕ, ◌+◌, ◌<◌, ◌≤◌, List, [], arith, inl, inr, refl, sym, ap, ◌∙◌, subst}
use Rattle.std.specs.Prelude.{◌==◌, ◌⊎◌, Bool, true, false, Option, Some, IsSome}
use Rattle.rme_words.specs.declared.shape.Shape.{Shape}
use Rattle.rme_words.specs.declared.refusal.Refusal.{Refusal}
use Rattle.rme_script.specs.Programs.{Program}
use Rattle.rme_script.specs.declared.job.Job.{Job}
use Rattle.rme_program.specs.declared.note.Entry.{Entry}
use Rattle.rme_program.specs.declared.note.Receipt as program
use Rattle.rme_service_steps.specs.declared.seat_record.Part.{Part}
use Rattle.rme_service_steps.specs.Parts.{draft_script, unchanged_part}
use Rattle.rme_service_steps.specs.SeatViews.{ServiceId, SeatView}
use Rattle.rme_session_protocol.specs.declared.reply.JobOutcome.{JobOutcome}
use Rattle.rme_session_protocol.specs.declared.reply.JobOutcome.TheVariants.{Receipt, Withdrawn, Waiting, Fell, Inside}
use Rattle.rme_session_protocol.specs.declared.reply.SessionReply.{SessionReply}
use Rattle.rme_session_protocol.specs.declared.reply.SessionReply.TheVariants.{Submitted, Resumed, Entered, Refused}
use Rattle.rme_session_protocol.specs.declared.order.Order.{Order}
use Rattle.rme_session_protocol.specs.declared.order.Order.TheVariants.{Attach, Submit, Resume, Enter}
use Rattle.rme_session_protocol.specs.declared.order.Patience.TheVariants.{Tries}
use Rattle.rme_session_protocol.specs.declared.order.Submission.{Submission}
use Rattle.rme_session_protocol.specs.SessionSteps.{SessionStepInSteps, ResumeOrderEffect}
use Rattle.rme_session_protocol.specs.Refusals.{resume_refusal}
use Rattle.rme_session_protocol.specs.Attempts.{merged_reply, retry_order, is_still_waiting, submission_with_tries, with_tries}
use Rattle.rme_session_protocol.specs.declared.view.PendingWorker.{PendingWorker}
use Rattle.rme_session_protocol.specs.declared.view.Session as shown
use Rattle.rme_session_protocol.specs.declared.view.SessionView.{SessionView}
use Rattle.rme_session_protocol.proofs.Trying as session_laws
use Rattle.rme_session_protocol.proofs.Trying.{IsClimb, climb_not_refused, enter_not_refused, false_true}
use Rattle.rme_session_threads.specs.ThreadSteps.{stand_change, ThreadOrderEffect, AppendsJobEntry, EnterEntries, ReadyEnterEntries, ReadySubmitEntries, EntersWithoutEntry, KeepsLife, OrderLife, OrderOwnSteps, TellsKnownPlace, ThreadSessionStep, ResumeEntries, SubmitEntries}
use Rattle.rme_session_threads.specs.Stands.{held_draft, held_entries, held_worker, holding_session, stand_view}
use Rattle.rme_session_threads.specs.JobOutcomes.{OwnStepsBetween, TellsWorkerSection, part_when_told, submit_lead}
use Rattle.rme_session_threads.specs.declared.stand.Holding.{Holding}
use Rattle.rme_session_threads.specs.declared.stand.Holding.TheVariants.{Empty, Ready, Climb, Held}
use Rattle.rme_session_threads.specs.declared.stand.Stand.{Stand as Session}
use Rattle.rme_session_threads.proofs.Planning.{went_on}
use Rattle.rme_session_protocol.specs.Attempts.{least_patience_tries, order_patience}
use Rattle.rme_session_loop.specs.OrderRuns.{IsReplyOfTries, MayStopAfter}
use Rattle.rme_session_loop.specs.SessionAnswers.{MayContinueOrder}
use Rattle.rme_server.specs.ServiceAttempts.{HasMadeAllTries, SessionStepUntilGone}

-- The number of tries of an order does not change its effect on the entries.
module _ (tries : ℕ) (its : Submission) (shape : Shape) where
  submit_tried : (start now : Holding) (became : JobOutcome)
      → SubmitEntries shape start (submission_with_tries tries its) now became
      → SubmitEntries shape start its now became
  submit_tried Empty now became enters = enters
  submit_tried (Ready ready) now became enters = enters
  submit_tried (Climb climb) now became enters = enters
  submit_tried (Held held) now became enters = enters

  inside_tried : (start now : Holding) (became : JobOutcome)
      → EnterEntries shape start (submission_with_tries tries its) now became → EnterEntries shape start its now became
  inside_tried Empty now became enters = enters
  inside_tried (Ready ready) now became enters = enters
  inside_tried (Climb climb) now became enters = enters
  inside_tried (Held held) now became enters = enters

module _ (ident : ServiceId) (count made tries : ℕ) (old now : Session) (let_go : Option SeatView) where
  adds_tried : (its : Order) (reply : SessionReply)
      → ThreadOrderEffect ident count made (stand_change old now let_go) (with_tries tries its) reply
      → ThreadOrderEffect ident count made (stand_change old now let_go) its reply
  adds_tried (Submit its) (Refused why) adds = adds
  adds_tried (Submit its) (Submitted became) (enters, walked) = (submit_tried tries its ident.shape old.value now.value became enters, walked)
  adds_tried (Submit its) reply adds = absurd adds
  adds_tried (Resume patience) (Refused why) adds = adds
  adds_tried (Resume patience) (Resumed became) adds = adds
  adds_tried (Resume patience) reply adds = absurd adds
  adds_tried (Enter its) (Refused why) adds = adds
  adds_tried (Enter its) (Entered became) (enters, walked) = (inside_tried tries its ident.shape old.value now.value became enters, walked)
  adds_tried (Enter its) reply adds = absurd adds
  adds_tried its reply adds = adds

-- Nor does it change the life of the worker.
life_tried : (tries : ℕ) (old now : Session) (its : Order) (reply : SessionReply)
    → OrderLife (with_tries tries its) old now reply → OrderLife its old now reply
life_tried tries old now (Submit its) reply life = life
life_tried tries old now (Resume patience) reply life = life
life_tried tries old now (Enter its) (Entered (Inside token)) life = life
life_tried tries old now (Enter its) reply life = life
life_tried tries old now its reply life = life

pub all_tries : (ident : ServiceId) (count tries : ℕ) (old now : Session) (its : Order) (reply : SessionReply)
    → HasMadeAllTries tries its reply → ThreadSessionStep ident count old (with_tries tries its) now reply
    → ThreadSessionStep ident count old its now reply
all_tries ident count tries old now its reply all obeys = let acts = obeys.acts in record {
  let_go = obeys.let_go;
  acts = record {
    made = acts.made;
    before = acts.before;
    after = acts.after;
    obeys = session_laws.all_tries ident.shape acts.made tries (stand_view acts.before old) (stand_view acts.after now) its reply all acts.obeys;
    told_before = acts.told_before;
    told_after = acts.told_after;
    adds = adds_tried ident count acts.made tries old now obeys.let_go its reply acts.adds;
    section = acts.section;
    place = acts.place;
  };
  life = life_tried tries old now its reply obeys.life;
}

-- Two parts: the entries, and the own steps.
enters_both : (before : List Entry) (script second : Program) (mid now : Holding) (became : JobOutcome)
    → AppendsJobEntry before script mid Waiting → second ≡ script
    → AppendsJobEntry (held_entries (held_worker mid)) second now became → AppendsJobEntry before script now became
enters_both before script second mid now (Receipt receipt) waits same enters =
    let P : List Entry → Type 0 = λ es. AppendsJobEntry es second now (Receipt receipt) in
    let Q : Program → Type 0 = λ its. AppendsJobEntry before its now (Receipt receipt) in subst Q same (subst P waits enters)
enters_both before script second mid now Withdrawn waits same enters = absurd enters
enters_both before script second mid now Waiting waits same enters = enters ∙ waits
enters_both before script second mid now Fell waits same enters = tt
enters_both before script second mid now (Inside token) waits same enters = absurd enters

hands_both : (shape : Shape) (again : Bool) (ready : SeatView) (job : Job) (mid now : Holding) (became : JobOutcome)
    → ReadySubmitEntries shape again ready job mid Waiting → held_draft (held_worker mid) ≡ Some job
    → ResumeEntries mid now became → ReadySubmitEntries shape again ready job now became
hands_both shape true ready job mid now became waits has enters = absurd waits
hands_both shape false ready job mid now became waits has enters =
    enters_both ready.part.entries job.script (draft_script (held_draft (held_worker mid))) mid now became waits (ap (λ (d : Option Job). draft_script d) has) enters

submit_both : (shape : Shape) (start mid now : Holding) (its : Submission) (became : JobOutcome)
    → SubmitEntries shape start its mid Waiting → held_draft (held_worker mid) ≡ Some its.job
    → ResumeEntries mid now became → SubmitEntries shape start its now became
submit_both shape Empty mid now its became waits has enters =
    enters_both [] its.job.script (draft_script (held_draft (held_worker mid))) mid now became waits (ap (λ (d : Option Job). draft_script d) has) enters
submit_both shape (Ready ready) mid now its became waits has enters = hands_both shape (its.number == ready.part.private.begun) ready its.job mid now became waits has enters
submit_both shape (Climb climb) mid now its became waits has enters =
    enters_both climb.part.entries its.job.script (draft_script (held_draft (held_worker mid))) mid now became waits (ap (λ (d : Option Job). draft_script d) has) enters
submit_both shape (Held held) mid now its became waits has enters =
    enters_both held.part.entries its.job.script (draft_script (held_draft (held_worker mid))) mid now became waits (ap (λ (d : Option Job). draft_script d) has) enters

-- A worker that climbs was not inside before, and there is no entry before its next step.
module _ (shape : Shape) (mid : Holding) (between : Option program.Receipt) (climbs : IsClimb (holding_session between mid)) where
  climb_inside : (value : Holding) → IsClimb (holding_session between value)
      → (before : List Entry) (its : Submission) (now : Holding) (became : JobOutcome)
      → EntersWithoutEntry before value Waiting
      → EnterEntries shape value its now became → EntersWithoutEntry before now became
  climb_inside Empty climbed before its now became waits enters = absurd climbed
  climb_inside (Ready ready) climbed before its now became waits enters = absurd climbed
  climb_inside (Climb climb) climbed before its now became waits enters = let P : List Entry → Type 0 = λ es. EntersWithoutEntry es now became in subst P waits enters
  climb_inside (Held held) climbed before its now became waits enters = absurd climbed

  hands_inside_both : (again : Bool) (ready : SeatView) (its : Submission) (now : Holding) (became : JobOutcome)
      → ReadyEnterEntries shape again ready mid Waiting → EnterEntries shape mid its now became
      → ReadyEnterEntries shape again ready now became
  hands_inside_both true ready its now became waits enters = absurd waits
  hands_inside_both false ready its now became waits enters = climb_inside mid climbs ready.part.entries its now became waits enters

  enter_both : (start : Holding) (its : Submission) (now : Holding) (became : JobOutcome)
      → EnterEntries shape start its mid Waiting → EnterEntries shape mid its now became
      → EnterEntries shape start its now became
  enter_both Empty its now became waits enters = absurd waits
  enter_both (Ready ready) its now became waits enters = hands_inside_both (its.number == ready.part.private.begun) ready its now became waits enters
  enter_both (Climb climb) its now became waits enters = climb_inside mid climbs climb.part.entries its now became waits enters
  enter_both (Held held) its now became waits enters = absurd waits

  lead_onward : (value : Holding) → IsClimb (holding_session between value) → (job : Job)
      → submit_lead value job ≡ unchanged_part
  lead_onward Empty climbed job = absurd climbed
  lead_onward (Ready ready) climbed job = absurd climbed
  lead_onward (Climb climb) climbed job = refl
  lead_onward (Held held) climbed job = absurd climbed

walked_both : (shape : Shape) (lead : Part → Part) (one two : ℕ) (old mid now : Session) (became : JobOutcome)
    (let_go : Option SeatView)
    → 0 < one
    → OwnStepsBetween shape lead (held_worker old.value) (held_worker mid.value) one → OrderOwnSteps shape unchanged_part two (stand_change mid now let_go) became → OrderOwnSteps shape lead (one + two) (stand_change old now let_go) became
walked_both shape lead one two old mid now (Receipt receipt) let_go some first (went, none) = (went_on shape lead unchanged_part (held_worker old.value) (held_worker mid.value) (held_worker now.value) one two some first went, none)
walked_both shape lead one two old mid now Withdrawn let_go some first (went, none) = (went_on shape lead unchanged_part (held_worker old.value) (held_worker mid.value) (held_worker now.value) one two some first went, none)
walked_both shape lead one two old mid now Waiting let_go some first (went, none) = (went_on shape lead unchanged_part (held_worker old.value) (held_worker mid.value) (held_worker now.value) one two some first went, none)
walked_both shape lead one two old mid now (Inside token) let_go some first (went, none) =
    (went_on shape lead (part_when_told (Inside token)) (held_worker old.value) (held_worker mid.value) (held_worker now.value) one two some first went, none)
walked_both shape lead one two old mid now Fell let_go some first went = went_on shape lead unchanged_part (held_worker old.value) (held_worker mid.value) let_go one two some first went

-- The session view of a worker that waits does not depend on its last receipt.
same_session : (value : Holding) (one two : Option program.Receipt) → IsClimb (holding_session one value)
    → holding_session one value ≡ holding_session two value
same_session Empty one two climbs = absurd climbs
same_session (Ready ready) one two climbs = absurd climbs
same_session (Climb climb) one two climbs = refl
same_session (Held held) one two climbs = absurd climbs

same_view : (mid : Session) (one two : Option program.Receipt) → IsClimb (holding_session one mid.value)
    → stand_view one mid ≡ stand_view two mid
same_view mid one two climbs = ap (λ (s : shown.Session). record { session = s; planned = mid.planned }) (same_session mid.value one two climbs)

-- The job of a worker that waits.
draft_of_waiting : (shape : Shape) (made : ℕ) (old : SessionView) (value : Holding) (mid : SessionView)
    (last : Option program.Receipt) (its : Submission)
    → mid.session ≡ holding_session last value
    → IsClimb (holding_session last value) → SessionStepInSteps shape made old (Submit its) mid (Submitted Waiting) → held_draft (held_worker value) ≡ Some its.job
draft_of_waiting shape made old Empty mid last its at climbs obeys = absurd climbs
draft_of_waiting shape made old (Ready ready) mid last its at climbs obeys = absurd climbs
draft_of_waiting shape made old (Climb climb) mid last its at climbs obeys = session_laws.waits_with shape made old mid _ its at obeys
draft_of_waiting shape made old (Held held) mid last its at climbs obeys = absurd climbs

draft_of_resumed : (start value : Holding) (one two : Option program.Receipt)
    → ResumeOrderEffect (holding_session one start) (holding_session two value) Waiting
    → held_draft (held_worker value) ≡ held_draft (held_worker start)
draft_of_resumed Empty value one two waits = absurd waits
draft_of_resumed (Ready ready) value one two waits = absurd waits
draft_of_resumed (Climb start) Empty one two waits = absurd waits
draft_of_resumed (Climb start) (Ready ready) one two waits = absurd waits
draft_of_resumed (Climb start) (Climb climb) one two waits = ap (λ (p : PendingWorker). p.draft) waits
draft_of_resumed (Climb start) (Held held) one two waits = absurd waits
draft_of_resumed (Held start) Empty one two waits = absurd waits
draft_of_resumed (Held start) (Ready ready) one two waits = absurd waits
draft_of_resumed (Held start) (Climb climb) one two waits = ap (λ (p : PendingWorker). p.draft) waits
draft_of_resumed (Held start) (Held held) one two waits = absurd waits

module _ (ident : ServiceId) (count tries one two : ℕ) (old mid now : Session) (before between : Option program.Receipt) (shows : SessionView) (first_go let_go : Option SeatView)
    (climbs : IsClimb (holding_session between mid.value)) (some : 0 < one) where
  never_refused : (why : Refusal) → (Some why ≡ resume_refusal (holding_session between mid.value)) ⊎ ⊥ → ⊥
  never_refused why (inl refuses) = climb_not_refused (holding_session between mid.value) why climbs refuses
  never_refused why (inr misses) = misses

  submit_adds : (its : Submission) (last : SessionReply)
      → SessionStepInSteps ident.shape one (stand_view before old) (Submit (submission_with_tries tries its))
      (stand_view between mid) (Submitted Waiting)
      → ThreadOrderEffect ident count one (stand_change old mid first_go) (Submit (submission_with_tries tries its)) (Submitted Waiting) → SessionStepInSteps ident.shape two (stand_view between mid) (Resume (Tries 1)) shows last
      → ThreadOrderEffect ident count two (stand_change mid now let_go) (Resume (Tries 1)) last → ThreadOrderEffect ident count (one + two) (stand_change old now let_go) (Submit (submission_with_tries (tries + 1) its)) (merged_reply (Submitted Waiting) last)
  submit_adds its (Resumed became) obeys (enters, (went, none)) more (later, walked) = (
    submit_tried tries (submission_with_tries (tries + 1) its) ident.shape old.value now.value became
        (submit_both ident.shape old.value mid.value now.value (submission_with_tries tries its) became enters
        (draft_of_waiting ident.shape one (stand_view before old) mid.value (stand_view between mid) between (submission_with_tries tries its) refl climbs obeys) later),
    walked_both ident.shape (submit_lead old.value its.job) one two old mid now became let_go some went walked,
  )
  submit_adds its (Refused why) obeys adds more later = absurd (never_refused why more.1)
  submit_adds its last obeys adds more later = absurd later

  resume_adds : (last : SessionReply)
      → SessionStepInSteps ident.shape one (stand_view before old) (Resume (Tries tries)) (stand_view between mid)
      (Resumed Waiting)
      → ThreadOrderEffect ident count one (stand_change old mid first_go) (Resume (Tries tries)) (Resumed Waiting) → SessionStepInSteps ident.shape two (stand_view between mid) (Resume (Tries 1)) shows last
      → ThreadOrderEffect ident count two (stand_change mid now let_go) (Resume (Tries 1)) last → ThreadOrderEffect ident count (one + two) (stand_change old now let_go) (Resume (Tries (tries + 1))) (merged_reply (Resumed Waiting) last)
  resume_adds (Resumed became) (refuses, (resumes, left, first)) (enters, (went, none)) more (later, walked) = (
    enters_both (held_entries (held_worker old.value)) (draft_script (held_draft (held_worker old.value))) (draft_script (held_draft (held_worker mid.value))) mid.value now.value became enters
        (ap (λ (d : Option Job). draft_script d) (draft_of_resumed old.value mid.value before between resumes)) later,
    walked_both ident.shape unchanged_part one two old mid now became let_go some went walked,
  )
  resume_adds (Refused why) obeys adds more later = absurd (never_refused why more.1)
  resume_adds last obeys adds more later = absurd later

  enter_adds : (its : Submission) (last : SessionReply)
      → SessionStepInSteps ident.shape one (stand_view before old) (Enter (submission_with_tries tries its))
      (stand_view between mid) (Entered Waiting)
      → ThreadOrderEffect ident count one (stand_change old mid first_go) (Enter (submission_with_tries tries its)) (Entered Waiting) → SessionStepInSteps ident.shape two (stand_view between mid) (Enter (submission_with_tries 1 its)) shows last
      → ThreadOrderEffect ident count two (stand_change mid now let_go) (Enter (submission_with_tries 1 its)) last → ThreadOrderEffect ident count (one + two) (stand_change old now let_go) (Enter (submission_with_tries (tries + 1) its)) (merged_reply (Entered Waiting) last)
  enter_adds its (Entered became) obeys (enters, (went, none)) more (later, walked) =
      let P : (Part → Part) → Type 0 = λ lead. OrderOwnSteps ident.shape lead two (stand_change mid now let_go) became in (
        inside_tried tries (submission_with_tries (tries + 1) its) ident.shape old.value now.value became
            (enter_both ident.shape mid.value between climbs old.value (submission_with_tries tries its) now.value became enters (inside_tried 1 (submission_with_tries tries its) ident.shape mid.value now.value became later)),
        walked_both ident.shape (submit_lead old.value its.job) one two old mid now became let_go some went
            (subst P (lead_onward ident.shape mid.value between climbs mid.value climbs its.job) walked),
      )
  enter_adds its (Refused why) obeys adds (same, inl refuses) later = absurd (enter_not_refused ident.shape tries one (stand_view before old) (stand_view between mid) its why obeys refuses)
  enter_adds its (Refused why) obeys adds (same, inr misses) later = absurd misses
  enter_adds its last obeys adds more later = absurd later

  adds_both : (its : Order) (reply last : SessionReply) → is_still_waiting reply ≡ true
      → SessionStepInSteps ident.shape one (stand_view before old) (with_tries tries its) (stand_view between mid) reply
      → ThreadOrderEffect ident count one (stand_change old mid first_go) (with_tries tries its) reply → SessionStepInSteps ident.shape two (stand_view between mid) (retry_order its) shows last
      → ThreadOrderEffect ident count two (stand_change mid now let_go) (retry_order its) last → ThreadOrderEffect ident count (one + two) (stand_change old now let_go) (with_tries (tries + 1) its) (merged_reply reply last)
  adds_both (Submit its) (Submitted Waiting) last waits obeys adds more later = submit_adds its last obeys adds more later
  adds_both (Resume patience) (Resumed Waiting) last waits obeys adds more later = resume_adds last obeys adds more later
  adds_both (Enter its) (Entered Waiting) last waits obeys adds more later = enter_adds its last obeys adds more later
  adds_both (Submit its) (Resumed Waiting) last waits obeys adds more later = absurd obeys.1
  adds_both (Submit its) (Entered Waiting) last waits obeys adds more later = absurd obeys.1
  adds_both (Resume patience) (Submitted Waiting) last waits obeys adds more later = absurd obeys.1
  adds_both (Resume patience) (Entered Waiting) last waits obeys adds more later = absurd obeys.1
  adds_both (Enter its) (Submitted Waiting) last waits obeys adds more later = absurd obeys.1
  adds_both (Enter its) (Resumed Waiting) last waits obeys adds more later = absurd obeys.1
  adds_both its (Submitted Waiting) last waits obeys adds more later = absurd obeys.1
  adds_both its (Resumed Waiting) last waits obeys adds more later = absurd obeys.1
  adds_both its (Entered Waiting) last waits obeys adds more later = absurd obeys.1
  adds_both its reply last waits obeys adds more later = absurd (false_true waits)

-- The token of the last part, and the place. A worker that was inside does not wait.
merged_section : (shape : Shape) (value : Holding) (reply last : SessionReply) → TellsWorkerSection shape value last
    → TellsWorkerSection shape value (merged_reply reply last)
merged_section shape value (Submitted first) (Resumed last) told = tt
merged_section shape value reply last told = told

abbrev IsOutside : Holding → Type 0
IsOutside (Held held) = ⊥
IsOutside value = Unit {0}

outside_place : (start : Holding) (answer : SessionReply) → IsOutside start → TellsKnownPlace start answer
outside_place Empty (Submitted became) out = tt
outside_place Empty answer out = tt
outside_place (Ready ready) (Submitted became) out = tt
outside_place (Ready ready) answer out = tt
outside_place (Climb climb) (Submitted became) out = tt
outside_place (Climb climb) answer out = tt
outside_place (Held held) answer out = absurd out

inside_place : (held : SeatView) (reply last : SessionReply) → is_still_waiting reply ≡ true
    → TellsKnownPlace (Held held) reply → TellsKnownPlace (Held held) (merged_reply reply last)
inside_place held (Submitted Waiting) last waits placed = absurd placed
inside_place held (Resumed Waiting) last waits placed = absurd placed
inside_place held (Entered Waiting) last waits placed = absurd placed
inside_place held reply last waits placed = absurd (false_true waits)

merged_place : (start : Holding) (reply last : SessionReply) → is_still_waiting reply ≡ true
    → TellsKnownPlace start reply → TellsKnownPlace start (merged_reply reply last)
merged_place Empty reply last waits placed = outside_place Empty (merged_reply reply last) tt
merged_place (Ready ready) reply last waits placed = outside_place (Ready ready) (merged_reply reply last) tt
merged_place (Climb climb) reply last waits placed = outside_place (Climb climb) (merged_reply reply last) tt
merged_place (Held held) reply last waits placed = inside_place held reply last waits placed

-- Two parts keep the life of the worker, and the second tells it.
climbs_held : (value : Holding) (last : Option program.Receipt) → IsClimb (holding_session last value)
    → IsSome (held_worker value)
climbs_held Empty last climbs = absurd climbs
climbs_held (Ready ready) last climbs = refl
climbs_held (Climb climb) last climbs = refl
climbs_held (Held held) last climbs = refl

module _ (shape : Shape) (tries one : ℕ) (old mid now : Session) (before between : Option program.Receipt) (climbs : IsClimb (holding_session between mid.value)) where
  keeps_both : KeepsLife old mid → KeepsLife mid now → KeepsLife old now
  keeps_both first then some = then some ∙ first (climbs_held mid.value between climbs)

  enter_life : (its : Submission) (last : SessionReply) → KeepsLife old mid
      → OrderLife (Enter (submission_with_tries 1 its)) mid now last
      → OrderLife (Enter (submission_with_tries (tries + 1) its)) old now last
  enter_life its (Entered (Inside token)) first (then, told) = (keeps_both first then, told ∙ first (climbs_held mid.value between climbs))
  enter_life its last first then = keeps_both first then

  life_both : (its : Order) (reply last : SessionReply) → is_still_waiting reply ≡ true
      → SessionStepInSteps shape one (stand_view before old) (with_tries tries its) (stand_view between mid) reply
      → OrderLife (with_tries tries its) old mid reply → OrderLife (retry_order its) mid now last → OrderLife (with_tries (tries + 1) its) old now (merged_reply reply last)
  life_both (Submit its) (Submitted Waiting) last waits obeys first then = keeps_both first then
  life_both (Resume patience) (Resumed Waiting) last waits obeys first then = keeps_both first then
  life_both (Enter its) (Entered Waiting) last waits obeys first then = enter_life its last first then
  life_both (Submit its) (Resumed Waiting) last waits obeys first then = absurd obeys.1
  life_both (Submit its) (Entered Waiting) last waits obeys first then = absurd obeys.1
  life_both (Resume patience) (Submitted Waiting) last waits obeys first then = absurd obeys.1
  life_both (Resume patience) (Entered Waiting) last waits obeys first then = absurd obeys.1
  life_both (Enter its) (Submitted Waiting) last waits obeys first then = absurd obeys.1
  life_both (Enter its) (Resumed Waiting) last waits obeys first then = absurd obeys.1
  life_both its (Submitted Waiting) last waits obeys first then = absurd obeys.1
  life_both its (Resumed Waiting) last waits obeys first then = absurd obeys.1
  life_both its (Entered Waiting) last waits obeys first then = absurd obeys.1
  life_both its reply last waits obeys first then = absurd (false_true waits)

-- Some tries, and one more if the job then waits, are the order with one more try.
pub both_parts : (ident : ServiceId) (count tries : ℕ) (old mid now : Session) (its : Order) (reply last : SessionReply)
    → 0 < tries → is_still_waiting reply ≡ true
    → ThreadSessionStep ident count old (with_tries tries its) mid reply → ThreadSessionStep ident count mid (retry_order its) now last → ThreadSessionStep ident count old (with_tries (tries + 1) its) now (merged_reply reply last)
both_parts ident count tries old mid now its reply last some waits first then =
    let one = first.acts in
    let two = then.acts in
    let still = session_laws.still_climbs ident.shape tries one.made (stand_view one.before old) (stand_view one.after mid) some its reply waits one.obeys in
    let same = same_view mid one.after two.before still.0 in
    let P : SessionView → Type 0 = λ view. SessionStepInSteps ident.shape two.made view (retry_order its) (stand_view two.after now) last in
    let more = subst P (sym same) two.obeys in record {
      let_go = then.let_go;
      acts = record {
        made = one.made + two.made;
        before = one.before;
        after = two.after;
        obeys = session_laws.both_parts ident.shape tries one.made two.made (stand_view one.before old) (stand_view one.after mid) (stand_view two.after now) its reply last waits one.obeys more;
        told_before = one.told_before;
        told_after = two.told_after;
        adds = adds_both ident count tries one.made two.made old mid now one.before one.after (stand_view two.after now) first.let_go then.let_go still.0 still.1 its reply last waits one.obeys
            one.adds more two.adds;
        section = merged_section ident.shape now.value reply last two.section;
        place = merged_place old.value reply last waits one.place;
      };
      life = life_both ident.shape tries one.made old mid now one.before one.after still.0 its reply last waits one.obeys first.life then.life;
    }

-- The same, for an order and an answer that are equal to these.
pub one_more : (ident : ServiceId) (count tries : ℕ) (old mid now : Session) (its again : Order)
    (reply last told : SessionReply)
    → 1 ≤ tries → is_still_waiting reply ≡ true → again ≡ retry_order its
    → told ≡ merged_reply reply last → ThreadSessionStep ident count old (with_tries tries its) mid reply → ThreadSessionStep ident count mid again now last → ThreadSessionStep ident count old (with_tries (tries + 1) its) now told
one_more ident count tries old mid now its again reply last told some waits is so first then =
    let P : Order → Type 0 = λ its. ThreadSessionStep ident count mid its now last in
    rw so (both_parts ident count tries old mid now its reply last (omega (arith, some)) waits first (subst P is then))

-- One more try at an order that may be tried again.
pub retried : (ident : ServiceId) (count tries : ℕ) (old mid now : Session) (its again : Order)
    (reply last told : SessionReply)
    → 1 ≤ tries → MayContinueOrder its reply → again ≡ retry_order its → told ≡ merged_reply reply last
    → ThreadSessionStep ident count old (with_tries tries its) mid reply → ThreadSessionStep ident count mid again now last → ThreadSessionStep ident count old (with_tries (tries + 1) its) now told
retried ident count tries old mid now (Attach asked) again reply last told some taken is so first then =
    let F : SessionReply → Type 0 = λ r. ThreadSessionStep ident count old (Attach asked) mid r in
    let M : SessionReply → Type 0 = λ r. told ≡ merged_reply r last in
    let same : mid ≡ old = (subst F taken first).acts.adds.0 in
    let S : Session → Type 0 = λ s. ThreadSessionStep ident count s (Attach asked) now last in
    let T : SessionReply → Type 0 = λ r. ThreadSessionStep ident count old (Attach asked) now r in
    let O : Order → Type 0 = λ o. ThreadSessionStep ident count mid o now last in
    subst T (sym (subst M taken so)) (subst S same (subst O is then))
retried ident count tries old mid now its again reply last told some waits is so first then = one_more ident count tries old mid now its again reply last told some waits is so first then

-- A job that does not wait has made all tries of its order.
pub over : (tries : ℕ) (its : Order) (reply : SessionReply) → is_still_waiting reply ≡ false
    → HasMadeAllTries tries its reply
over tries its reply not waits = absurd (false_true (sym not ∙ waits))

-- The reply of some number of tries, after which no further try is needed, is that of the order, or the client is gone.
module _ (gone : Type 0) (ident : ServiceId) (count : ℕ) (old now : Session) (its : Order) (reply : SessionReply) where
  until_gone : (tries : ℕ) → 1 ≤ tries → ThreadSessionStep ident count old (with_tries tries its) now reply
      → is_still_waiting reply ≡ true → (least_patience_tries (order_patience its) ≤ tries) ⊎ gone
      → SessionStepUntilGone gone (ThreadSessionStep ident count) old its now reply
  until_gone tries some step waits (inl all) = inl (all_tries ident count tries old now its reply (λ w. all) step)
  until_gone tries some step waits (inr is) = inr (is, waits, (tries, some, step))

  by_waiting : (waits : Bool) → is_still_waiting reply ≡ waits → (tries : ℕ) → 1 ≤ tries
      → ThreadSessionStep ident count old (with_tries tries its) now reply → MayStopAfter gone its tries reply
      → SessionStepUntilGone gone (ThreadSessionStep ident count) old its now reply
  by_waiting true is tries some step stops = until_gone tries some step is (stops is)
  by_waiting false is tries some step stops = inl (all_tries ident count tries old now its reply (over tries its reply is) step)

  pub tries_until_gone : IsReplyOfTries (λ (tries : ℕ). λ (r : SessionReply). ThreadSessionStep ident count old
      (with_tries tries its) now r) (λ (tries : ℕ). λ (r : SessionReply). MayStopAfter gone its tries r) reply
      → SessionStepUntilGone gone (ThreadSessionStep ident count) old its now reply
  tries_until_gone (tries, some, step, stops) = by_waiting (is_still_waiting reply) refl tries some step stops
