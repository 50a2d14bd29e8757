-- Downs that are appended in order of worker.
use Rattle.std.proofs.Common.{◌≡◌, ℕ, zero, suc, ◌+◌, ◌<◌, List, [], ◌∷◌, ◌++◌, length, refl, subst, arith}
use Rattle.std.specs.Prelude.{Some, slice_get}
use Rattle.std.proofs.lemmas.Option.{none-some, same_Some}
use Rattle.rme_service_steps.specs.SeatViews.{ServiceId, SeatView}
use Rattle.rme_session_threads.specs.WorkerSlots.{AreDownsInOrder, IsValueOfWorker}

-- The items of a list with one more item appended.
at_end : {A : Type 0} (P : ℕ → A → Type 0) (xs : List A) (x : A) → ((k : ℕ) (y : A) → slice_get xs k ≡ Some y → P k y) → P (length xs) x
    → (k : ℕ) (y : A) → slice_get (xs ++ x ∷ []) k ≡ Some y → P k y
at_end P [] x all last zero y e = let same : x ≡ y = same_Some x y e in subst (P 0) same last
at_end P [] x all last (suc k) y e = absurd (none-some y e)
at_end P (z ∷ xs) x all last zero y e = all zero y e
at_end P (z ∷ xs) x all last (suc k) y e = at_end (λ i. P (suc i)) xs x (λ i w at. all (suc i) w at) last k y e

pub in_order_on : (ident : ServiceId) (count : ℕ) (downs : List SeatView) → AreDownsInOrder ident count downs → AreDownsInOrder ident (count + 1) downs
in_order_on ident count downs so = record { ours = so.ours; few = λ k down at. (let below = so.few k down at in omega (arith, below)); rising = so.rising }

-- Each comes before the next, also if one is appended after all others.
rising_put : (downs : List SeatView) (down : SeatView) (count : ℕ) → ((k : ℕ) (one next : SeatView) → slice_get downs k ≡ Some one → slice_get downs (k + 1) ≡ Some next → one.part.worker < next.part.worker)
    → ((k : ℕ) (one : SeatView) → slice_get downs k ≡ Some one → one.part.worker < count) → down.part.worker ≡ count
    → (k : ℕ) (one next : SeatView) → slice_get (downs ++ down ∷ []) k ≡ Some one → slice_get (downs ++ down ∷ []) (suc k) ≡ Some next → one.part.worker < next.part.worker
rising_put [] down count rises below is zero one next at then = absurd (none-some next then)
rising_put [] down count rises below is (suc k) one next at then = absurd (none-some next then)
rising_put (x ∷ []) down count rises below is zero one next at then =
    let same : x ≡ one = same_Some x one at in
    let last : down ≡ next = same_Some down next then in
    let low = below 0 x refl in
    let P : SeatView → Type 0 = λ s. s.part.worker < next.part.worker in
    let Q : SeatView → Type 0 = λ s. x.part.worker < s.part.worker in
    subst P same (subst Q last (omega (arith, low, is)))
rising_put (x ∷ y ∷ xs) down count rises below is zero one next at then = rises 0 one next at then
rising_put (x ∷ xs) down count rises below is (suc k) one next at then =
    rising_put xs down count (λ j a b f g. rises (suc j) a b f (let e : suc j + 1 ≡ suc (j + 1) = omega arith in rw e g)) (λ j a f. below (suc j) a f) is k one next at then

pub in_order_put : (ident : ServiceId) (count : ℕ) (downs : List SeatView) (down : SeatView) → AreDownsInOrder ident count downs → IsValueOfWorker ident count down → AreDownsInOrder ident (count + 1) (downs ++ down ∷ [])
in_order_put ident count downs down so is = record {
  ours = at_end (λ (k : ℕ) (s : SeatView). s.ident ≡ ident) downs down so.ours is.ident_is;
  few = at_end (λ (k : ℕ) (s : SeatView). s.part.worker < count + 1) downs down (λ k s at. (let below = so.few k s at in omega (arith, below))) (let own = is.own in omega (arith, own));
  rising = λ k one next at then. rising_put downs down count so.rising so.few is.own k one next at (let e : k + 1 ≡ suc k = omega arith in rw (← e) then);
}
