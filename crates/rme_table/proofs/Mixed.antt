-- The entries of all workers together are a permutation of the history.
use Rattle.std.proofs.Common.{◌≡◌, ℕ, zero, suc, ◌<◌, ◌≤◌, List, [], ◌∷◌, ◌++◌, length, refl, sym, ◌∙◌, ap, subst, inl, inr, arith}
use Rattle.std.specs.Prelude.{Bool, true, false, ◌==◌, ◌||◌, filter, slice_get, Some}
use Rattle.std.specs.List.{All}
use Rattle.std.specs.List.Sorted.{IsPermutation}
use Rattle.std.proofs.lemmas.Bool.{cases_Bool, cases_eq, eq-eqb, ne_eqb, eqb-true}
use Rattle.std.proofs.lemmas.List.Elements.{All-head, All-tail}
use Rattle.std.proofs.lemmas.List.Sorted.{IsPermutation-refl, IsPermutation-sym, IsPermutation-trans, IsPermutation-cons, IsPermutation-middle, IsPermutation-append_left}
use Rattle.rme_words.specs.declared.shape.Shape.{Shape}
use Rattle.rme_program.specs.declared.note.Entry.{Entry}
use Rattle.rme_machine.specs.Histories.{history_of_lock, history_of_worker, HistoryIsLegal}
use Rattle.rme_history.proofs.Machines.{legal_both}
use Rattle.rme_history.proofs.Pairs.{sum_mixed, sum_ones}
use Rattle.rme_service_steps.specs.Rule.{part_is_of_worker}
use Rattle.rme_service_steps.specs.SeatViews.{SeatView}
use Rattle.rme_service_steps.specs.Closing.{entries_given, seat_count_of_worker}
use Rattle.rme_table.specs.Downs.{has_down, all_given}
use Rattle.rme_table.proofs.Entries.{each_passes}

-- If no item passes both tests, the items that pass either are those that pass one and those that pass the other.
split_both : {A : Type 0} (p q : A → Bool) (xs : List A) → ((x : A) → p x ≡ true → q x ≡ false)
    → IsPermutation (filter (λ (x : A). p x || q x) xs) (filter q xs ++ filter p xs)
split_both p q [] apart = IsPermutation-refl []
split_both p q (x ∷ xs) apart =
    let rest = split_both p q xs apart in
    elim (cases_Bool (p x)) [
      | inl t ↦ rw (t, apart x t)
          (IsPermutation-trans _ _ _ (IsPermutation-cons x _ _ rest) (IsPermutation-sym _ _ (IsPermutation-middle (filter q xs) x (filter p xs))))
      | inr f ↦ elim (cases_Bool (q x)) [
        | inl u ↦ rw (f, u) (IsPermutation-cons x _ _ rest)
        | inr g ↦ rw (f, g) rest
      ]
    ]

pub all_kept : {A : Type 0} (p : A → Bool) (xs : List A) → All (λ (x : A). p x ≡ true) xs → filter p xs ≡ xs
all_kept p [] all = refl
all_kept p (x ∷ xs) all =
    rw (All-head (λ (y : _). p y ≡ true) x xs all) (ap (λ (ys : List _). x ∷ ys) (all_kept p xs (All-tail (λ (y : _). p y ≡ true) x xs all)))

same_test : (a b : ℕ) → (a == b) ≡ (b == a)
same_test a b = elim (cases_eq a b) [
  | inl e ↦ rw (eq-eqb a b e, eq-eqb b a (sym e)) refl
  | inr n ↦ rw (ne_eqb a b n, ne_eqb b a (λ e. n (sym e))) refl
]

-- If none of them is a worker's, the worker is not among them.
none_of : (w : ℕ) (downs : List SeatView) → seat_count_of_worker w downs ≡ 0 → has_down downs w ≡ false
none_of w [] none = refl
none_of w (d ∷ downs) none = elim (cases_eq d.part.worker w) [
  | inl e ↦ (let one : part_is_of_worker w d.part ≡ 1 = rw (eq-eqb d.part.worker w e) refl in absurd (omega (arith, none, one)))
  | inr apart ↦ rw (ne_eqb d.part.worker w apart) (none_of w downs (omega (arith, none)))
]

-- The entries of these workers in the history are a permutation of those of their parts.
module _ (history : List Entry) (n : ℕ) where
  pub given_mixed : (downs : List SeatView) → ((k : ℕ) (d : SeatView) → slice_get downs k ≡ Some d → (d.part.worker < n) × (history_of_worker history d.part.worker ≡ d.part.entries))
      → ((w : ℕ) → w < n → seat_count_of_worker w downs ≤ 1) → IsPermutation (filter (λ (e : Entry). has_down downs e.receipt.worker) history) (entries_given downs)
  given_mixed [] own few = subst (λ (es : List Entry). IsPermutation es []) (sym (none_kept history)) (IsPermutation-refl [])
    where
      none_kept : (es : List Entry) → filter (λ (e : Entry). has_down [] e.receipt.worker) es ≡ []
      none_kept [] = refl
      none_kept (e ∷ es) = none_kept es
  given_mixed (d ∷ downs) own few =
      let mine = own zero d refl in
      let rest = given_mixed downs (λ k x at. own (suc k) x at) (λ w below. let all = few w below in omega (arith, all)) in
      let both = split_both (λ (e : Entry). d.part.worker == e.receipt.worker) (λ (e : Entry). has_down downs e.receipt.worker) history apart in
      let theirs : filter (λ (e : Entry). d.part.worker == e.receipt.worker) history ≡ d.part.entries =
      ap (λ (test : Entry → Bool). filter test history) (λ k e. same_test d.part.worker e.receipt.worker k) ∙ mine.1 in
      let put = subst (λ (es : List Entry). IsPermutation (filter (λ (e : Entry). has_down (d ∷ downs) e.receipt.worker) history)
      (filter (λ (e : Entry). has_down downs e.receipt.worker) history ++ es)) theirs both in
      IsPermutation-trans _ _ _ put (IsPermutation-append_left d.part.entries _ _ rest)
    where
      apart : (e : Entry) → (d.part.worker == e.receipt.worker) ≡ true → has_down downs e.receipt.worker ≡ false
      apart e is =
          let same : d.part.worker ≡ e.receipt.worker = eqb-true d.part.worker e.receipt.worker is in
          let one : part_is_of_worker d.part.worker d.part ≡ 1 = rw (eq-eqb d.part.worker d.part.worker refl) refl in
          let most = few d.part.worker (own zero d refl).0 in
          subst (λ (w : ℕ). has_down downs w ≡ false) same (none_of d.part.worker downs (omega (arith, one, most)))

-- If all workers are among them, they are all entries of the history.
pub history_mixed : (s : Shape) (history : List Entry) (downs : List SeatView) → HistoryIsLegal s history → all_given s downs ≡ true
    → ((k : ℕ) (d : SeatView) → slice_get downs k ≡ Some d → (d.part.worker < s.workers) × (history_of_worker history d.part.worker ≡ d.part.entries))
    → ((w : ℕ) → w < s.workers → seat_count_of_worker w downs ≤ 1) → IsPermutation history (entries_given downs)
history_mixed s history downs legal all own few =
    let workers = ((legal_both s history).0 legal).0 in
    let passes : All (λ (e : Entry). has_down downs e.receipt.worker ≡ true) history = λ k d within. each_passes (has_down downs) 0 s.workers _ all (omega arith) (omega (arith, workers k d within)) in
    subst (λ (es : List Entry). IsPermutation es (entries_given downs)) (all_kept (λ (e : Entry). has_down downs e.receipt.worker) history passes) (given_mixed history s.workers downs own few)

-- A permutation has as many entries of each lock.
pub lock_mixed : (lock : ℕ) (es mixed : List Entry) → IsPermutation es mixed → length (history_of_lock mixed lock) ≡ length (history_of_lock es lock)
lock_mixed lock es mixed mixes =
    sym (sum_ones (history_of_lock mixed lock)) ∙ sum_mixed (λ (e : Entry). 1) (λ (e : Entry). e.receipt.lock == lock) es mixed mixes ∙ sum_ones (history_of_lock es lock)

-- There is a worker, so there is one among them.
pub some_given : (s : Shape) (downs : List SeatView) → all_given s downs ≡ true → 0 < length downs
some_given s [] all = absurd (let first : has_down [] 0 ≡ true = each_passes (has_down []) 0 s.workers 0 all (omega arith) (omega (arith, s.counted.limits.some_worker)) in cc)
some_given s (d ∷ downs) all = omega arith
