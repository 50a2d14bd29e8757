-- The outcome of attaching a worker.
use Rattle.std.specs.Prelude.{◌≡◌, ℕ, ◌+◌, false}
use Rattle.rme_words.specs.declared.shape.Shape.{Shape}
use Rattle.rme_service_steps.specs.declared.seat_record.Part.{Part}
use Rattle.rme_service_steps.specs.Parts.{unchanged_part, restarted_part}
use Rattle.rme_service_steps.specs.SeatViews.{ServiceId, SeatView}
use Rattle.rme_table.specs.Calls.{PartKnowsNumber, is_section_over, recover_steps}
use Rattle.rme_table.specs.declared.kinds.Stance.TheVariants as stance
use Rattle.rme_session_protocol.specs.declared.reply.SessionStance.{SessionStance}
use Rattle.rme_session_protocol.specs.declared.reply.SessionStance.TheVariants as at
use Rattle.rme_session_protocol.specs.declared.reply.SessionReply.{SessionReply}
use Rattle.rme_session_protocol.specs.declared.reply.SessionReply.TheVariants.{Attached}
use Rattle.rme_session_threads.specs.WorkerSlots.{IsValueOfWorker}
use Rattle.rme_session_threads.specs.JobOutcomes.{HasMadeOwnSteps}
use Rattle.rme_session_threads.specs.declared.stand.Holding.{Holding}
use Rattle.rme_session_threads.specs.declared.stand.Holding.TheVariants.{Empty, Ready, Climb, Held}

-- The worker made own steps, still has its job and its entries, and knows its number: in any world it is its word
-- Begun.
pub record KeepsJobAndEntries (shape : Shape) (lead : Part → Part) (start now : SeatView) : Type 0 where
  pub made : ℕ
  pub walked : HasMadeOwnSteps shape lead unchanged_part start now made
  pub draft : now.part.draft ≡ start.part.draft
  pub entries : now.part.entries ≡ start.part.entries
  pub number : PartKnowsNumber shape now.part

-- A worker that was down restarted, and still has its job and its entries. If its job is pending it made only the steps
-- of Recover.
abbrev pub WorkerRecovery : Shape → SeatView → Holding → Type 0
WorkerRecovery shape down Empty = ⊥
WorkerRecovery shape down (Ready ready) = KeepsJobAndEntries shape restarted_part down ready
WorkerRecovery shape down (Climb climb) =
    KeepsJobAndEntries shape restarted_part down climb
    × (climb.part.steps ≡ down.part.steps + recover_steps shape (stance.Climb climb))
WorkerRecovery shape down (Held held) =
    KeepsJobAndEntries shape restarted_part down held
    × (held.part.steps ≡ down.part.steps + recover_steps shape (stance.Held held))

-- A worker that is inside stays there, or is made ready.
abbrev pub WorkerExit : Shape → SeatView → Holding → Type 0
WorkerExit shape held (Ready ready) = KeepsJobAndEntries shape unchanged_part held ready
WorkerExit shape held (Held now) = now ≡ held
WorkerExit shape held value = ⊥

-- The Down of this worker was taken out of its slot, and restarted.
abbrev pub SlotAttach : ServiceId → ℕ → Holding → Type 0
SlotAttach ident worker value =
    (down : SeatView) × IsValueOfWorker ident worker down × WorkerRecovery ident.shape down value

-- ATTACH: the session holds this worker, and the answer has its number and its stance.
abbrev pub ThreadAttachEffect : ServiceId → ℕ → Holding → ℕ → SessionStance → Type 0
ThreadAttachEffect ident worker (Ready ready) number at.Ready =
    IsValueOfWorker ident worker ready × (ready.part.private.begun ≡ number)
ThreadAttachEffect ident worker (Climb climb) number at.Climb =
    IsValueOfWorker ident worker climb × (climb.part.private.begun ≡ number)
ThreadAttachEffect ident worker (Held held) number at.Held =
    IsValueOfWorker ident worker held × (held.part.private.begun ≡ number)
    × (is_section_over held.part.private.stage ≡ false)
ThreadAttachEffect ident worker value number standing = ⊥

abbrev pub AttachAnswer : ServiceId → ℕ → Holding → SessionReply → Type 0
AttachAnswer ident worker value (Attached number standing) = ThreadAttachEffect ident worker value number standing
AttachAnswer ident worker value answer = ⊥
