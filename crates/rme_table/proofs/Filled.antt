-- The locks of a closed service, filled one after another.
use Rattle.std.proofs.Common.{◌≡◌, ◌≢◌, ◌⊎◌, ℕ, zero, suc, ◌+◌, ◌<◌, ◌≤◌, List, [], ◌∷◌, ◌++◌, map, length, refl, sym, ◌∙◌, ap, subst, inl, inr, arith}
use Rattle.std.specs.Prelude.{slice_get, slice_set, Some}
use Rattle.std.specs.List.{range_with_len}
use Rattle.std.proofs.lemmas.List.FromFn.{length-map-range_with_len, map-range_with_len_more}
use Rattle.std.proofs.lemmas.Option.{same_Some}
use Rattle.rme_words.specs.declared.shape.Shape.{Shape}
use Rattle.rme_words.specs.Words.{Memory}
use Rattle.rme_program.specs.declared.note.Entry.{Entry}
use Rattle.rme_machine.specs.Histories.{history_of_lock}
use Rattle.rme_service_steps.proofs.Opened.{last_or_before}
use Rattle.rme_table.specs.declared.closed.ClosedLock.{ClosedLock}
use Rattle.rme_table.specs.Filling.{LockHasRoom, IsFilledLock}

-- The cells, in order.
pub cells_long : (f : ℕ → ℕ) (n : ℕ) (cells : List ℕ) → cells ≡ map f (range_with_len 0 n) → length cells ≡ n
cells_long f n cells is = ap (λ (xs : List ℕ). length xs) is ∙ length-map-range_with_len f 0 n

pub cells_more : (f : ℕ → ℕ) (n v : ℕ) (cells later : List ℕ) → cells ≡ map f (range_with_len 0 n) → v ≡ f n → later ≡ cells ++ v ∷ [] → later ≡ map f (range_with_len 0 (n + 1))
cells_more f n v cells later is here grows =
    grows ∙ ap (λ (xs : List ℕ). xs ++ v ∷ []) is ∙ ap (λ (x : ℕ). map f (range_with_len 0 n) ++ x ∷ []) here ∙ sym (map-range_with_len_more f 0 n n (omega arith))

-- An item of a list after one write is the written one, or an earlier one at another index.
pub written : {A : Type 0} (xs : List A) (i : ℕ) (x : A) (k : ℕ) (y : A) → slice_get (slice_set xs i x) k ≡ Some y → ((k ≡ i) × (y ≡ x)) ⊎ ((k ≢ i) × (slice_get xs k ≡ Some y))
written [] i x k y at = cc
written (z ∷ xs) zero x zero y at = inl (refl, sym (same_Some _ _ at))
written (z ∷ xs) zero x (suc k) y at = inr ((λ e. omega (arith, e)), at)
written (z ∷ xs) (suc i) x zero y at = inr ((λ e. omega (arith, e)), at)
written (z ∷ xs) (suc i) x (suc k) y at = elim (written xs i x k y at) [
  | inl here ↦ inl (ap suc here.0, here.1)
  | inr else_where ↦ inr ((λ e. else_where.0 (omega (arith, e))), else_where.1)
]

-- The first `done` locks are filled, and the others still have their room.
pub record PartFilled (memory : Memory) (entries : List Entry) (done : ℕ) (locks : List ClosedLock) : Type 0 where
  pub count : length locks ≡ memory.shape.locks
  pub filled : (lock : ℕ) (closed : ClosedLock) → slice_get locks lock ≡ Some closed → lock < done → IsFilledLock memory entries lock closed
  pub rooms : (lock : ℕ) (room : ClosedLock) → slice_get locks lock ≡ Some room → done ≤ lock → LockHasRoom memory.shape (length (history_of_lock entries lock)) room

pub one_filled : (memory : Memory) (entries : List Entry) (done : ℕ) (locks later : List ClosedLock) (closed : ClosedLock) → PartFilled memory entries done locks
    → later ≡ slice_set locks done closed → length later ≡ length locks → IsFilledLock memory entries done closed → PartFilled memory entries (done + 1) later
one_filled memory entries done locks later closed part puts long filled = record {
  count = long ∙ part.count;
  filled = λ lock x at less. elim (written locks done closed lock x (at_set lock x at)) [
    | inl here ↦ (let P : ℕ → ClosedLock → Type 0 = λ (k : ℕ) (y : ClosedLock). IsFilledLock memory entries k y in
        subst (λ (k : ℕ). P k x) (sym here.0) (subst (λ (y : ClosedLock). P done y) (sym here.1) filled))
    | inr other ↦ part.filled lock x other.1 (omega (arith, less, other.0))
  ];
  rooms = λ lock x at least. elim (written locks done closed lock x (at_set lock x at)) [
    | inl here ↦ absurd (omega (arith, here.0, least))
    | inr other ↦ part.rooms lock x other.1 (omega (arith, least))
  ];
}
  where
    at_set : (lock : ℕ) (x : ClosedLock) → slice_get later lock ≡ Some x → slice_get (slice_set locks done closed) lock ≡ Some x
    at_set lock x at = subst (λ (xs : List ClosedLock). slice_get xs lock ≡ Some x) puts at

-- One more lock has its room.
pub one_room : (shape : Shape) (entries : List Entry) (locks later : List ClosedLock) (room : ClosedLock) (lock count : ℕ) → length locks ≡ lock
    → ((k : ℕ) (x : ClosedLock) → slice_get locks k ≡ Some x → LockHasRoom shape (length (history_of_lock entries k)) x) → LockHasRoom shape count room → count ≡ length (history_of_lock entries lock)
    → later ≡ locks ++ room ∷ [] → (k : ℕ) (x : ClosedLock) → slice_get later k ≡ Some x → LockHasRoom shape (length (history_of_lock entries k)) x
one_room shape entries locks later room lock count long have has same grows k x at =
    elim (last_or_before locks room k x (subst (λ (xs : List ClosedLock). slice_get xs k ≡ Some x) grows at)) [
      | inl before ↦ have k x before
      | inr last ↦
          (let P : ℕ → ClosedLock → Type 0 = λ (n : ℕ) (y : ClosedLock). LockHasRoom shape (length (history_of_lock entries n)) y in
          let here : P lock room = subst (λ (n : ℕ). LockHasRoom shape n room) same has in
          subst (λ (n : ℕ). P n x) (sym long ∙ sym last.0) (subst (λ (y : ClosedLock). P lock y) (sym last.1) here))
    ]
