-- A worker that restarts, and leaves a lock whose job is finished.
use Rattle.rme_service_steps.specs.CallSteps.{seat_call}
use Rattle.std.proofs.Common.{◌≡◌, ℕ, ◌+◌, ◌<◌, length, refl, sym, ◌∙◌, arith}
use Rattle.std.specs.Prelude.{None}
use Rattle.rme_words.specs.declared.shape.Shape.{Shape}
use Rattle.rme_service_steps.specs.Chances.{ChanceCounts}
use Rattle.rme_service_steps.specs.Parts.{unchanged_part, restarted_part}
use Rattle.rme_service_steps.specs.SeatViews.{ServiceId, SeatView}
use Rattle.rme_table.specs.Calls.{PartKnowsNumber, CallIsDone, recover_steps}
use Rattle.rme_table.specs.declared.kinds.Stance.TheVariants as stance
use Rattle.rme_session_protocol.specs.declared.reply.SessionStance.{SessionStance}
use Rattle.rme_session_protocol.specs.declared.reply.SessionStance.TheVariants as at
use Rattle.rme_session_protocol.specs.declared.reply.SessionReply.{SessionReply}
use Rattle.rme_session_protocol.specs.declared.reply.SessionReply.TheVariants.{Attached}
use Rattle.rme_session_protocol.specs.declared.order.Attachment.{Attachment}
use Rattle.rme_session_protocol.specs.declared.order.Order.TheVariants.{Attach}
use Rattle.rme_session_protocol.specs.SessionSteps as sight
use Rattle.rme_session_protocol.specs.Refusals.{attach_refusal}
use Rattle.rme_session_threads.specs.ThreadSteps.{stand_change, ThreadOrderExecution}
use Rattle.rme_session_threads.specs.Stands.{holding_session}
use Rattle.rme_session_threads.specs.WorkerSlots.{IsValueOfWorker}
use Rattle.rme_session_protocol.specs.declared.planned_crash.PlannedCrash.TheVariants.{Nothing}
use Rattle.rme_session_threads.specs.declared.stand.Stand.{Stand as Session}
use Rattle.rme_session_threads.specs.Attaching.{AttachAnswer, WorkerExit, WorkerRecovery, KeepsJobAndEntries}
use Rattle.rme_session_threads.specs.declared.stand.Holding.{Holding}
use Rattle.rme_session_threads.specs.declared.stand.Holding.TheVariants.{Empty, Ready, Climb, Held}
use Rattle.rme_session_threads.proofs.Planning.{walked_by, walked_on}

pub risen : (shape : Shape) (start now : SeatView) (old new : ChanceCounts) (least most : ℕ) → CallIsDone (seat_call shape restarted_part start now old new) least most → PartKnowsNumber shape now.part
    → KeepsJobAndEntries shape restarted_part start now
risen shape start now old new least most made number = record {
  made = length made.walks.values;
  walked = walked_by shape restarted_part start now old new 0 made.walks made.stays.ident made.stays.own;
  draft = made.stays.draft;
  entries = made.stays.entries;
  number = number;
}

-- After a recovery, which has at least two steps.
pub risen_on : (shape : Shape) (down mid ready : SeatView) (old new : ChanceCounts) (most : ℕ) → CallIsDone (seat_call shape restarted_part down mid old new) 2 most → KeepsJobAndEntries shape unchanged_part mid ready → KeepsJobAndEntries shape restarted_part down ready
risen_on shape down mid ready old new most made out =
    let first = walked_by shape restarted_part down mid old new 0 made.walks made.stays.ident made.stays.own in
    let count = length made.walks.values in
    let counted = made.counted in
    let enough = made.enough in
    let steps = first.steps in
    let some : 0 < count = omega (arith, counted, enough, steps) in record {
      made = count + out.made;
      walked = walked_on shape restarted_part unchanged_part down mid ready count out.made some first out.walked;
      draft = out.draft ∙ made.stays.draft;
      entries = out.entries ∙ made.stays.entries;
      number = out.number;
    }

-- A worker that is inside after its recovery.
pub risen_inside : (shape : Shape) (down held : SeatView) (value : Holding) (old new : ChanceCounts) (most : ℕ) → CallIsDone (seat_call shape restarted_part down held old new) 2 most
    → held.part.steps ≡ down.part.steps + recover_steps shape (stance.Held held) → PartKnowsNumber shape held.part → WorkerExit shape held value → WorkerRecovery shape down value
risen_inside shape down held Empty old new most made steps number out = absurd out
risen_inside shape down held (Ready ready) old new most made steps number out = risen_on shape down held ready old new most made out
risen_inside shape down held (Climb climb) old new most made steps number out = absurd out
risen_inside shape down held (Held now) old new most made steps number out = rw out (risen shape down held old new 2 most made number, steps)

-- An attach that is not refused.
shown_attached : (ident : ServiceId) (worker : ℕ) (value : Holding) (number : ℕ) (standing : SessionStance) → AttachAnswer ident worker value (Attached number standing)
    → sight.AttachOrderEffect worker (holding_session None value) number standing
shown_attached ident worker (Ready ready) number at.Ready (is, same) = (is.own, same)
shown_attached ident worker (Climb climb) number at.Climb (is, same) = (is.own, same)
shown_attached ident worker (Held held) number at.Held (is, same, pending) = (is.own, same)
shown_attached ident worker value number standing answers = absurd answers

pub attaches : (ident : ServiceId) (count : ℕ) (old : Session) (asked : Attachment) (down : SeatView) (value : Holding) (life : ℕ) (answer : SessionReply)
    → attach_refusal ident.shape asked.worker (holding_session None old.value) ≡ None → IsValueOfWorker ident asked.worker down → AttachAnswer ident asked.worker value answer → WorkerRecovery ident.shape down value
    → ThreadOrderExecution ident count (stand_change old (record { value = value; planned = Nothing; life = life }) None) (Attach asked) answer
attaches ident count old asked down value life (Attached number standing) none is answers up = record {
  made = 0;
  before = None;
  after = None;
  obeys = (sym none, (shown_attached ident asked.worker value number standing answers, refl));
  told_before = tt;
  told_after = tt;
  adds = ((down, is, up), refl);
  section = tt;
  place = tt;
}
attaches ident count old asked down value life answer none is answers up = absurd answers
