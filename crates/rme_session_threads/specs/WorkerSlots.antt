-- The slots of the workers that no session has.
use Rattle.std.specs.Prelude.{◌≡◌, ℕ, ◌+◌, ◌<◌, ◌≤◌, List, slice_get, Option, Some, Result, Ok, Err}
use Rattle.rme_words.specs.declared.refusal.Refusal.{Refusal}
use Rattle.rme_words.specs.declared.refusal.Refusal.TheVariants.{NoWorker, Overtaken, Taken}
use Rattle.rme_service_steps.specs.SeatViews.{ServiceId, SeatView}
use Rattle.rme_service_steps.specs.Closing.{SeatsAreOfService}
use Rattle.rme_session_threads.specs.Lives.{BeginsLife, IsInTime, IsLate}
use Rattle.rme_session_threads.specs.declared.worker_slot.TakenWorker.{TakenWorker}

-- These are the Downs of this service's workers 0, 1 and so on, in order.
pub record AreDownsInPlace (ident : ServiceId) (downs : List SeatView) : Type 0 where
  pub ours : SeatsAreOfService ident downs
  pub order : (worker : ℕ) (down : SeatView) → slice_get downs worker ≡ Some down → down.part.worker ≡ worker

-- The value is this worker's, of this service.
pub record IsValueOfWorker (ident : ServiceId) (worker : ℕ) (stand : SeatView) : Type 0 where
  pub ident_is : stand.ident ≡ ident
  pub own : stand.part.worker ≡ worker

-- Why a worker's slot with this count is not given up: the worker was restarted since the life `after`, or it was not,
-- and the slot is empty.
abbrev pub SlotRefusal : Option ℕ → ℕ → Refusal → Type 0
SlotRefusal after counted Overtaken = IsLate after counted
SlotRefusal after counted Taken = IsInTime after counted
SlotRefusal after counted why = ⊥

-- The result of taking from one of `count` slots: the worker's Down, with the life that begins; or the refusal.
abbrev pub SlotTake : ServiceId → ℕ → ℕ → Option ℕ → Result TakenWorker Refusal → Type 0
SlotTake ident count worker after (Ok taken) =
    (worker < count) × IsValueOfWorker ident worker taken.down
    × ((counted : ℕ) × BeginsLife after counted taken.life)
SlotTake ident count worker after (Err NoWorker) = count ≤ worker
SlotTake ident count worker after (Err why) = (worker < count) × ((counted : ℕ) × SlotRefusal after counted why)

-- Downs of workers of this service below `count`, in order, at most one of each.
pub record AreDownsInOrder (ident : ServiceId) (count : ℕ) (downs : List SeatView) : Type 0 where
  pub ours : SeatsAreOfService ident downs
  pub few : (k : ℕ) (down : SeatView) → slice_get downs k ≡ Some down → down.part.worker < count
  pub rising : (k : ℕ) (down next : SeatView) → slice_get downs k ≡ Some down → slice_get downs (k + 1) ≡ Some next
      → down.part.worker < next.part.worker
