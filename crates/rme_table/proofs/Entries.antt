-- Lists that are traversed from the front: counting and filtering.
use Rattle.std.proofs.Common.{◌≡◌, ℕ, zero, suc, ◌+◌, ◌<◌, ◌≤◌, ◌-◌, List, [], ◌∷◌, ◌++◌, length, take, get_or, Some, slice_get, refl, sym, ◌∙◌, ap, inl, inr, arith}
use Rattle.std.specs.Prelude.{Bool, true, false, ◌==◌, filter, if◌then◌else◌}
use Rattle.std.specs.List.{list_all, range_with_len}
use Rattle.std.specs.Option.{option_map}
use Rattle.std.proofs.lemmas.Bool.{cases_Bool, cases_eq, eq-eqb, and_parts}
use Rattle.std.proofs.lemmas.List.{length-append, append-nil}
use Rattle.std.proofs.lemmas.List.Elements.{filter-append}
use Rattle.std.proofs.lemmas.Option.{slice_get_cases, slice_get_within, same_Some, none-some}
use Rattle.std.proofs.Math.Seq.{take-length}
use Rattle.rme_script.proofs.Lists.{take_next}
use Rattle.rme_program.specs.declared.note.Entry.{Entry}
use Rattle.rme_program.specs.declared.note.Receipt.{Receipt}
use Rattle.rme_machine.specs.Histories.{history_of_lock}
use Rattle.rme_service_steps.specs.Rule.{total_of}
use Rattle.rme_service_steps.specs.SeatViews.{SeatView}
use Rattle.rme_service_steps.specs.Closing.{entries_given}

-- One more item is counted.
pub total_more : {A : Type 0} (f : A → ℕ) (xs : List A) (i : ℕ) (d : A) → i < length xs → total_of f (take (suc i) xs) ≡ total_of f (take i xs) + f (get_or xs i d)
total_more f [] i d within = absurd (omega (arith, within))
total_more f (x ∷ xs) zero d within = omega arith
total_more f (x ∷ xs) (suc i) d within = let rest = total_more f xs i d (omega (arith, within)) in omega (arith, rest)

-- One more item is tested.
filter_more : {A : Type 0} (p : A → Bool) (xs : List A) (i : ℕ) (d : A) → i < length xs
    → filter p (take (suc i) xs) ≡ filter p (take i xs) ++ filter p (get_or xs i d ∷ [])
filter_more p [] i d within = absurd (omega (arith, within))
filter_more p (x ∷ xs) zero d within = refl
filter_more p (x ∷ xs) (suc i) d within =
    let rest = filter_more p xs i d (omega (arith, within)) in
    elim (cases_Bool (p x)) [
      | inl t ↦ rw t (ap (λ (ys : List _). x ∷ ys) rest)
      | inr f ↦ rw f rest
    ]

one_more : (i : ℕ) → i + 1 ≡ suc i
one_more i = omega arith

module _ (lock : ℕ) (es : List Entry) (i : ℕ) (d : Entry) (within : i < length es) where
  more : history_of_lock (take (i + 1) es) lock ≡ history_of_lock (take i es) lock ++ history_of_lock (get_or es i d ∷ []) lock
  more = ap (λ (k : ℕ). history_of_lock (take k es) lock) (one_more i) ∙ filter_more (λ (e : Entry). e.receipt.lock == lock) es i d within

  pub kept_one : ((get_or es i d).receipt.lock == lock) ≡ true → history_of_lock (take (i + 1) es) lock ≡ history_of_lock (take i es) lock ++ get_or es i d ∷ []
  kept_one is = more ∙ ap (λ (b : Bool). history_of_lock (take i es) lock ++ (if b then get_or es i d ∷ [] else [])) is

  pub left_one : ((get_or es i d).receipt.lock == lock) ≡ false → history_of_lock (take (i + 1) es) lock ≡ history_of_lock (take i es) lock
  left_one is = more ∙ ap (λ (b : Bool). history_of_lock (take i es) lock ++ (if b then get_or es i d ∷ [] else [])) is ∙ append-nil (history_of_lock (take i es) lock)

-- One more entry of a lock is counted if the next receipt is of that lock.
pub count_more : (lock : ℕ) (es : List Entry) (i : ℕ) (r : Receipt) → option_map (λ (e : Entry). e.receipt) (slice_get es i) ≡ Some r
    → length (history_of_lock (take (i + 1) es) lock) ≡ length (history_of_lock (take i es) lock) + (if r.lock == lock then 1 else 0)
count_more lock es i r is = elim (slice_get_cases es i).1 [
  | inl (e, within, found, there) ↦
      let same : (get_or es i e).receipt ≡ r = ap (λ (d : Entry). d.receipt) there ∙ same_Some _ _ (ap (option_map (λ (d : Entry). d.receipt)) (sym found) ∙ is) in
      elim (cases_Bool (r.lock == lock)) [
        | inl t ↦ rw t (ap length (kept_one lock es i e within (ap (λ (q : Receipt). q.lock == lock) same ∙ t)) ∙ length-append (history_of_lock (take i es) lock) (get_or es i e ∷ []))
        | inr f ↦ rw f (let here = ap length (left_one lock es i e within (ap (λ (q : Receipt). q.lock == lock) same ∙ f)) in omega (arith, here))
      ]
  | inr (past, none) ↦ absurd (none-some _ (ap (option_map (λ (d : Entry). d.receipt)) (sym none) ∙ is))
]

-- The last item of a list comes after the others.
pub split_last : (es : List Entry) (e : Entry) → slice_get es (length es - 1) ≡ Some e → (before : List Entry) × (last : Entry) × (es ≡ before ++ last ∷ []) × (last.receipt ≡ e.receipt)
split_last es e is =
    let within = slice_get_within es (length es - 1) e is in
    let all : (length es - 1) + 1 ≡ length es = omega (arith, within) in
    (take (length es - 1) es, e, sym (take-length es) ∙ ap (λ (n : ℕ). take n es) (sym all) ∙ take_next es (length es - 1) e is, refl)

-- The entries of a lock among the first are at most as many as among all.
pub few_kept : (lock : ℕ) (es : List Entry) (i : ℕ) → length (history_of_lock (take i es) lock) ≤ length (history_of_lock es lock)
few_kept lock [] zero = omega arith
few_kept lock [] (suc i) = omega arith
few_kept lock (e ∷ es) zero = omega arith
few_kept lock (e ∷ es) (suc i) = elim (cases_Bool (e.receipt.lock == lock)) [
  | inl t ↦ rw t (let rest = few_kept lock es i in omega (arith, rest))
  | inr f ↦ rw f (few_kept lock es i)
]

-- The number of all entries is the sum of each worker's.
pub all_counted : (downs : List SeatView) → length (entries_given downs) ≡ total_of (λ (down : SeatView). length down.part.entries) downs
all_counted [] = refl
all_counted (d ∷ downs) = let rest = all_counted downs in let both = length-append (entries_given downs) d.part.entries in omega (arith, rest, both)

pub lock_counted : (lock : ℕ) (downs : List SeatView) → length (history_of_lock (entries_given downs) lock) ≡ total_of (λ (down : SeatView). length (history_of_lock down.part.entries lock)) downs
lock_counted lock [] = refl
lock_counted lock (d ∷ downs) =
    let rest = lock_counted lock downs in
    let apart = ap (λ (es : List Entry). length es) (filter-append (λ (e : Entry). e.receipt.lock == lock) (entries_given downs) d.part.entries) in
    let both = length-append (history_of_lock (entries_given downs) lock) (history_of_lock d.part.entries lock) in
    omega (arith, rest, apart, both)

-- All items of a range pass a test if each does, and conversely.
pub all_pass : (p : ℕ → Bool) (from n : ℕ) → ((w : ℕ) → w < from + n → p w ≡ true) → list_all p (range_with_len from n) ≡ true
all_pass p from zero each = refl
all_pass p from (suc n) each = rw (each from (omega arith)) (all_pass p (from + 1) n (λ w less. each w (omega (arith, less))))

pub each_passes : (p : ℕ → Bool) (from n w : ℕ) → list_all p (range_with_len from n) ≡ true → from ≤ w → w < from + n → p w ≡ true
each_passes p from zero w all low high = absurd (omega (arith, low, high))
each_passes p from (suc n) w all low high =
    let both = and_parts (p from) (list_all p (range_with_len (from + 1) n)) all in
    elim (cases_eq w from) [
      | inl e ↦ ap p e ∙ both.0
      | inr apart ↦ each_passes p (from + 1) n w both.1 (omega (arith, low, apart)) (omega (arith, high))
    ]

pub one_fails : (p : ℕ → Bool) (n w : ℕ) → w < n → p w ≡ false → list_all p (range_with_len 0 n) ≡ false
one_fails p n w less fails = elim (cases_Bool (list_all p (range_with_len 0 n))) [
  | inl all ↦ (let passes = each_passes p 0 n w all (omega arith) (omega (arith, less)) in cc)
  | inr otherwise ↦ otherwise
]

-- One more item is counted, with the count in a machine number.
pub total_next : {A : Type 0} (f : A → ℕ) (xs : List A) (i : ℕ) (d : A) (before later here : ℕ) → before ≡ total_of f (take i xs) → i < length xs → d ≡ get_or xs i d → here ≡ f d
    → later ≡ before + here → later ≡ total_of f (take (i + 1) xs)
total_next f xs i d before later here so_far within is its adds =
    let one = total_more f xs i d within in
    let same : f d ≡ f (get_or xs i d) = ap f is in
    let more : total_of f (take (i + 1) xs) ≡ total_of f (take (suc i) xs) = ap (λ (k : ℕ). total_of f (take k xs)) (one_more i) in
    omega (arith, so_far, its, adds, one, same, more)

-- There is room for one more entry of a lock.
pub room_kept : (lock : ℕ) (es own : List Entry) (i : ℕ) (d : Entry) (room : ℕ) → own ≡ history_of_lock (take i es) lock → i < length es → d ≡ get_or es i d → d.receipt.lock ≡ lock
    → length (history_of_lock es lock) ≤ room → length own < room
room_kept lock es own i d room is within here its wide =
    let kept = kept_one lock es i d within (eq-eqb (get_or es i d).receipt.lock lock (ap (λ (e : Entry). e.receipt.lock) (sym here) ∙ its)) in
    let long : length (history_of_lock (take (i + 1) es) lock) ≡ length (history_of_lock (take i es) lock) + 1 = ap (λ (xs : List Entry). length xs) kept ∙ length-append (history_of_lock (take i es) lock) (get_or es i d ∷ []) in
    let few = few_kept lock es (i + 1) in
    let now : length own ≡ length (history_of_lock (take i es) lock) = ap (λ (xs : List Entry). length xs) is in
    omega (arith, long, few, now, wide)
