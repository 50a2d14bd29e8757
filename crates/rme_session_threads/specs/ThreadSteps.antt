-- The effect of an order on a session, and its answer.
use Rattle.std.specs.Prelude.{◌≡◌, ℕ, ◌<◌, ◌≤◌, ◌==◌, Bool, true, false, List, [], ◌∷◌, ◌++◌, Option, None, IsSome}
use Rattle.rme_words.specs.declared.shape.Shape.{Shape}
use Rattle.rme_words.specs.declared.refusal.Refusal.{Refusal}
use Rattle.rme_words.specs.declared.refusal.Refusal.TheVariants.{NoWorker, Overtaken, Taken}
use Rattle.rme_script.specs.Programs.{Program}
use Rattle.rme_script.specs.declared.job.Job.{Job}
use Rattle.rme_program.specs.declared.note.Entry.{Entry}
use Rattle.rme_program.specs.declared.note.Receipt.{Receipt}
use Rattle.rme_service_steps.specs.declared.seat_record.Part.{Part}
use Rattle.rme_service_steps.specs.Parts.{draft_script, unchanged_part, withdrawing_part}
use Rattle.rme_service_steps.specs.SeatViews as seat
use Rattle.rme_table.specs.Calls.{LastReceiptContract}
use Rattle.rme_session_protocol.specs.declared.reply.JobOutcome.{JobOutcome}
use Rattle.rme_session_protocol.specs.declared.reply.JobOutcome.TheVariants as outcome
use Rattle.rme_session_protocol.specs.declared.reply.SessionReply.{SessionReply}
use Rattle.rme_session_protocol.specs.declared.reply.SessionReply.TheVariants as reply
use Rattle.rme_session_protocol.specs.declared.order.Order.{Order}
use Rattle.rme_session_protocol.specs.declared.order.Order.TheVariants as order
use Rattle.rme_session_protocol.specs.declared.order.Submission.{Submission}
use Rattle.rme_session_protocol.specs.SessionSteps.{SessionStepInSteps}
use Rattle.rme_session_threads.specs.Attaching.{SlotAttach}
use Rattle.rme_session_threads.specs.Lives.{BeginsLife, IsInTime, IsLate}
use Rattle.rme_session_threads.specs.Stands.{IsShownReceipt, held_draft, held_entries, held_worker, stand_view}
use Rattle.rme_session_threads.specs.JobOutcomes.{HasJustEntered, HasKnownPlace, OwnStepsBetween, OwnStepsThenLoad, TellsWorkerSection, ThreadRepeatEffect, part_when_told, seat_with_section, submit_lead}
use Rattle.rme_session_threads.specs.declared.stand.Stand.{Stand}
use Rattle.rme_session_threads.specs.declared.stand.Holding.{Holding}
use Rattle.rme_session_threads.specs.declared.stand.Holding.TheVariants.{Ready, Climb, Held}

-- The part of the contract that only the running service can state: its slots, the entries of its workers, and their
-- own steps in the worlds of the core.

-- Among `count` slots that of the worker to attach does not exist; or it has counted a restart since the life that the
-- order has; or it has not, and is empty.
abbrev pub IsSlotRefusal : ℕ → Shape → Order → Refusal → Type 0
IsSlotRefusal count shape (order.Attach asked) Overtaken =
    (asked.worker < count) × ((counted : ℕ) × IsLate asked.after counted)
IsSlotRefusal count shape (order.Attach asked) Taken =
    (asked.worker < count) × ((counted : ℕ) × IsInTime asked.after counted)
IsSlotRefusal count shape (order.Attach asked) NoWorker = asked.worker < shape.workers → count ≤ asked.worker
IsSlotRefusal count shape its why = Unit {0}

-- A finished job of this script appended its entry, whose receipt is the answer; a waiting job left the entries
-- unchanged.
abbrev pub AppendsJobEntry : List Entry → Program → Holding → JobOutcome → Type 0
AppendsJobEntry before script value (outcome.Receipt receipt) =
    held_entries (held_worker value) ≡ before ++ record { receipt = receipt; script = script } ∷ []
AppendsJobEntry before script value outcome.Waiting = held_entries (held_worker value) ≡ before
AppendsJobEntry before script value outcome.Fell = Unit {0}
AppendsJobEntry before script value outcome.Withdrawn = ⊥
AppendsJobEntry before script value (outcome.Inside token) = ⊥

-- SUBMIT: answering a last number again leaves the worker unchanged.
abbrev pub ReadySubmitEntries : Shape → Bool → seat.SeatView → Job → Holding → JobOutcome → Type 0
ReadySubmitEntries shape true ready job value became = ThreadRepeatEffect shape ready value became
ReadySubmitEntries shape false ready job value became = AppendsJobEntry ready.part.entries job.script value became

abbrev pub SubmitEntries : Shape → Holding → Submission → Holding → JobOutcome → Type 0
SubmitEntries shape (Ready ready) its value became =
    ReadySubmitEntries shape (its.number == ready.part.private.begun) ready its.job value became
SubmitEntries shape start its value became =
    AppendsJobEntry (held_entries (held_worker start)) its.job.script value became

-- ENTER: the entries are unchanged, and a worker that is inside has made no step of its section. A last number that is
-- answered again leaves the worker unchanged; a worker that was already inside only knows its section afterwards.
abbrev pub EntersWithoutEntry : List Entry → Holding → JobOutcome → Type 0
EntersWithoutEntry before (Held held) (outcome.Inside token) = (held.part.entries ≡ before) × HasJustEntered held
EntersWithoutEntry before value outcome.Waiting = held_entries (held_worker value) ≡ before
EntersWithoutEntry before value outcome.Fell = Unit {0}
EntersWithoutEntry before value its = ⊥

abbrev pub ReadyEnterEntries : Shape → Bool → seat.SeatView → Holding → JobOutcome → Type 0
ReadyEnterEntries shape true ready value became = ThreadRepeatEffect shape ready value became
ReadyEnterEntries shape false ready value became = EntersWithoutEntry ready.part.entries value became

abbrev pub EnterEntries : Shape → Holding → Submission → Holding → JobOutcome → Type 0
EnterEntries shape (Ready ready) its value became =
    ReadyEnterEntries shape (its.number == ready.part.private.begun) ready value became
EnterEntries shape (Climb climb) its value became = EntersWithoutEntry climb.part.entries value became
EnterEntries shape (Held held) its value (outcome.Inside token) = value ≡ Held (seat_with_section held token.section)
EnterEntries shape start its value became = ⊥

-- RESUME, COMMIT: the job is the pending one.
abbrev pub ResumeEntries : Holding → Holding → JobOutcome → Type 0
ResumeEntries start value became =
    AppendsJobEntry (held_entries (held_worker start)) (draft_script (held_draft (held_worker start))) value became

-- LAST: the worker's word `place`, as it was read, determines whether its last number was withdrawn.
abbrev pub HasLastReceipt : Shape → Holding → Option Receipt → Type 0
HasLastReceipt shape (Ready ready) receipt = LastReceiptContract shape ready.part receipt
HasLastReceipt shape other receipt = ⊥

-- THE LIFE OF A WORKER. A session keeps the life of its worker.
abbrev pub KeepsLife : Stand → Stand → Type 0
KeepsLife old now = IsSome (held_worker now.value) → now.life ≡ old.life

-- ATTACH begins the worker's next life, by the count of its slot. ENTER tells the life of a worker that is inside.
abbrev pub OrderLife : Order → Stand → Stand → SessionReply → Type 0
OrderLife (order.Attach asked) old now (reply.Attached number stance) =
    (counted : ℕ) × BeginsLife asked.after counted now.life
OrderLife (order.Enter its) old now (reply.Entered (outcome.Inside token)) =
    KeepsLife old now × (token.life ≡ old.life)
OrderLife its old now answer = KeepsLife old now

-- What an order does to a session: its value before and after, and the Down that it releases, if any.
pub record StandChange : Type 0 where
  pub old : Stand
  pub now : Stand
  pub let_go : Option seat.SeatView

abbrev pub stand_change : Stand → Stand → Option seat.SeatView → StandChange
stand_change old now let_go = record { old = old; now = now; let_go = let_go }

-- Only these own steps happened to the worker, after the lead that the order allows, and the load that made its token;
-- a worker that crashed is released.
abbrev pub OrderOwnSteps : Shape → (Part → Part) → ℕ → StandChange → JobOutcome → Type 0
OrderOwnSteps shape lead made change outcome.Fell =
    OwnStepsBetween shape lead (held_worker change.old.value) change.let_go made
OrderOwnSteps shape lead made change became =
    OwnStepsThenLoad shape lead (part_when_told became) (held_worker change.old.value)
    (held_worker change.now.value) made
    × (change.let_go ≡ None)

-- The effect of each order. A refused order changes nothing. DETACH releases the worker unchanged.
abbrev pub ThreadOrderEffect : seat.ServiceId → ℕ → ℕ → StandChange → Order → SessionReply → Type 0
ThreadOrderEffect ident count made change its (reply.Refused why) =
    (change.now ≡ change.old) × IsSlotRefusal count ident.shape its why × (change.let_go ≡ None)
ThreadOrderEffect ident count made change (order.Attach asked) answer =
    SlotAttach ident asked.worker change.now.value × (change.let_go ≡ None)
ThreadOrderEffect ident count made change (order.Submit its) (reply.Submitted became) =
    SubmitEntries ident.shape change.old.value its change.now.value became
    × OrderOwnSteps ident.shape (submit_lead change.old.value its.job) made change became
ThreadOrderEffect ident count made change (order.Resume patience) (reply.Resumed became) =
    ResumeEntries change.old.value change.now.value became
    × OrderOwnSteps ident.shape unchanged_part made change became
ThreadOrderEffect ident count made change (order.Enter its) (reply.Entered became) =
    EnterEntries ident.shape change.old.value its change.now.value became
    × OrderOwnSteps ident.shape (submit_lead change.old.value its.job) made change became
ThreadOrderEffect ident count made change order.Commit (reply.Committed became) =
    ResumeEntries change.old.value change.now.value became
    × OrderOwnSteps ident.shape unchanged_part made change became
ThreadOrderEffect ident count made change order.Withdraw (reply.Withdrew number) =
    (held_entries (held_worker change.now.value) ≡ held_entries (held_worker change.old.value))
    × OwnStepsBetween ident.shape withdrawing_part (held_worker change.old.value) (held_worker change.now.value) made
    × (change.let_go ≡ None)
ThreadOrderEffect ident count made change order.Withdraw reply.WithdrawFell =
    OwnStepsBetween ident.shape withdrawing_part (held_worker change.old.value) change.let_go made
ThreadOrderEffect ident count made change order.Last (reply.Last receipt) =
    HasLastReceipt ident.shape change.old.value receipt × (change.now ≡ change.old) × (change.let_go ≡ None)
ThreadOrderEffect ident count made change (order.CrashAfter steps) answer =
    (change.now.value ≡ change.old.value) × (change.let_go ≡ None)
ThreadOrderEffect ident count made change order.Detach answer = change.let_go ≡ held_worker change.old.value
ThreadOrderEffect ident count made change order.Ping answer = (change.now ≡ change.old) × (change.let_go ≡ None)
ThreadOrderEffect ident count made change order.Pending answer = (change.now ≡ change.old) × (change.let_go ≡ None)
ThreadOrderEffect ident count made change its answer = ⊥

-- SUBMIT, RESUME, ENTER and COMMIT of a worker that was inside: it does not wait, and its receipt has the place that it
-- knew.
abbrev pub TellsKnownPlace : Holding → SessionReply → Type 0
TellsKnownPlace start (reply.Submitted became) = HasKnownPlace start became
TellsKnownPlace start (reply.Resumed became) = HasKnownPlace start became
TellsKnownPlace start (reply.Entered became) = HasKnownPlace start became
TellsKnownPlace start (reply.Committed became) = HasKnownPlace start became
TellsKnownPlace start answer = Unit {0}

-- A session of this service, which has `count` slots, executed an order. Its view makes a step by the own steps of its
-- worker; a receipt in its view is that of the worker's last entry. A token tells the number of finished sections.
pub record ThreadOrderExecution (ident : seat.ServiceId) (count : ℕ) (change : StandChange) (its : Order)
    (answer : SessionReply) : Type 0 where
  pub made : ℕ
  pub before : Option Receipt
  pub after : Option Receipt
  pub obeys : SessionStepInSteps ident.shape made (stand_view before change.old) its (stand_view after change.now)
      answer
  pub told_before : IsShownReceipt change.old.value before
  pub told_after : IsShownReceipt change.now.value after
  pub adds : ThreadOrderEffect ident count made change its answer
  pub section : TellsWorkerSection ident.shape change.now.value answer
  pub place : TellsKnownPlace change.old.value answer

-- The same, for any released worker, and the life of the session's worker.
pub record ThreadSessionStep (ident : seat.ServiceId) (count : ℕ) (old : Stand) (its : Order) (now : Stand)
    (answer : SessionReply) : Type 0 where
  pub let_go : Option seat.SeatView
  pub acts : ThreadOrderExecution ident count (stand_change old now let_go) its answer
  pub life : OrderLife its old now answer
