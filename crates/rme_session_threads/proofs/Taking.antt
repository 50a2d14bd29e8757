-- The effects of taking a worker out of its slot.
use Rattle.std.proofs.Common.{◌≡◌, ℕ, ◌<◌, arith, sym, subst}
use Rattle.std.specs.Prelude.{IfErr, IfOk, IsOk, Option, Result, Ok, Err}
use Rattle.rme_words.specs.declared.refusal.Refusal.{Refusal}
use Rattle.rme_words.specs.declared.refusal.Refusal.TheVariants.{NoWorker}
use Rattle.rme_service_steps.specs.SeatViews.{ServiceId}
use Rattle.rme_session_threads.specs.Lives.{BeginsLife, EndsEarlierLives}
use Rattle.rme_session_threads.specs.WorkerSlots.{IsValueOfWorker, SlotRefusal, SlotTake}
use Rattle.rme_session_threads.specs.declared.worker_slot.TakenWorker.{TakenWorker}

-- The slot is one of any number of slots.
pub one_of_slots : (ident : ServiceId) (old now worker : ℕ) (after : Option ℕ) (result : Result TakenWorker Refusal) → IfOk result (λ taken. IsValueOfWorker ident worker taken.down)
    → IfOk result (λ taken. (taken.life ≡ now) × BeginsLife after old now) → IfErr result (λ why. (now ≡ old) × SlotRefusal after old why)
    → (count : ℕ) → worker < count → SlotTake ident count worker after result
one_of_slots ident old now worker after (Ok taken) is counts refused count below = (below, is, (old, subst (λ life. BeginsLife after old life) (sym counts.0) counts.1))
one_of_slots ident old now worker after (Err NoWorker) is counts refused count below = absurd refused.1
one_of_slots ident old now worker after (Err why) is counts refused count below = (below, (old, refused.1))

-- A life that begins ends the earlier ones.
pub ends_earlier : (old now : ℕ) (after : Option ℕ) (result : Result TakenWorker Refusal) → IfOk result (λ taken. (taken.life ≡ now) × BeginsLife after old now) → IsOk result → EndsEarlierLives old now
ends_earlier old now after (Ok taken) counts ok = λ few life told. omega (arith, counts.1.1, few, told)
ends_earlier old now after (Err why) counts ok = cc
