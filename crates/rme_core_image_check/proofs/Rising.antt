-- The numbers of each worker's entries rise if and only if each entry's number is above those before it.
use Rattle.std.proofs.Common.{◌≡◌, ◌≢◌, ℕ, zero, suc, ◌+◌, ◌<◌, ◌≤◌, List, [], ◌∷◌, ◌++◌, length, take, drop, get_or, refl, sym, ◌∙◌, ap, subst, inl, inr, arith, append_assoc}
use Rattle.std.specs.Prelude.{Bool, true, false, ◌&&◌, ◌==◌, Option, Some, None, slice_get}
use Rattle.std.specs.List.{list_any}
use Rattle.std.proofs.lemmas.Bool.{cases_eq, cases_Bool, eq-eqb, ne_eqb, eqb-true, and_from, or_left, or_right}
use Rattle.std.proofs.lemmas.List.{take-append-drop, take_all}
use Rattle.std.proofs.lemmas.List.Folds.{list_any-append}
use Rattle.std.proofs.lemmas.Option.{slice_get-get_or, slice_get_within, slice_get_cases, same_Some}
use Rattle.rme_words.specs.declared.shape.Shape.{Shape}
use Rattle.rme_script.proofs.Lists.{take_next, drop_at}
use Rattle.rme_program.specs.declared.note.Entry.{Entry}
use Rattle.rme_machine.specs.Histories.{last_entry_of_worker, has_entry, numbers_of_worker, NumbersRise, EntryFollows, HistoryIsLegal}
use Rattle.rme_machine.proofs.Lasts.{IsLast, last_stands}
use Rattle.rme_machine.proofs.Historical.{last_by_same, last_by_other, numbers_same, numbers_other, rises_more}
use Rattle.rme_history.proofs.Legal.{follows_in}
use Rattle.rme_history.proofs.Machines.{legal_both}
use Rattle.rme_core_image_check.specs.LastEntryLists.{last_number, EntryNumbersRise}

-- A property below a number and at it is one below the next.
pub up_to : (P : ℕ → Type 0) (i : ℕ) → ((k : ℕ) → k < i → P k) → P i → (k : ℕ) → k < i + 1 → P k
up_to P i below here k less = elim (cases_eq k i) [
  | inl same ↦ subst P (sym same) here
  | inr apart ↦ below k (omega (arith, less, apart))
]

-- A list, cut at one of its items.
cut : (es : List Entry) (i : ℕ) (e : Entry) → slice_get es i ≡ Some e → es ≡ take i es ++ e ∷ drop (i + 1) es
cut es i e here = sym (take-append-drop i es) ∙ ap (λ (rest : List Entry). take i es ++ rest) (drop_at es i e here)

-- The number of one of a worker's entries, among numbers that rise.
record IsBetween (low most : ℕ) (e : Entry) (after : List Entry) (w : ℕ) : Type 0 where
  above : low < e.receipt.number
  within : e.receipt.number ≤ most
  rest : NumbersRise e.receipt.number most (numbers_of_worker after w)

between : (before after : List Entry) (e : Entry) (w low most : ℕ) → e.receipt.worker ≡ w → NumbersRise low most (numbers_of_worker (before ++ e ∷ after) w) → IsBetween low most e after w
unfolding numbers_of_worker
between [] after e w low most by rises =
    let these : NumbersRise low most (e.receipt.number ∷ numbers_of_worker after w) = rw (eq-eqb e.receipt.worker w by) at rises in
    record { above = these.0; within = these.1; rest = these.2 }
between (d ∷ before) after e w low most by rises = elim (cases_Bool (d.receipt.worker == w)) [
  | inl t ↦
      (let these : NumbersRise low most (d.receipt.number ∷ numbers_of_worker (before ++ e ∷ after) w) = rw t at rises in
      let later : IsBetween d.receipt.number most e after w = between before after e w d.receipt.number most by these.2 in
      record { above = omega (arith, these.0, later.above); within = later.within; rest = later.rest })
  | inr f ↦ (let these : NumbersRise low most (numbers_of_worker (before ++ e ∷ after) w) = rw f at rises in between before after e w low most by these)
]

-- The last one is the greatest.
pub last_most : (es : List Entry) (w low most : ℕ) → NumbersRise low most (numbers_of_worker es w) → last_number (last_entry_of_worker es w) ≤ most
last_most es w low most rises = go (last_entry_of_worker es w) refl
  where
    go : (last : Option Entry) → last_entry_of_worker es w ≡ last → last_number last ≤ most
    go None is = omega arith
    go (Some e) is =
        let its : IsLast (λ (d : Entry). d.receipt.worker == w) es e = last_stands _ es e is in
        let P : List Entry → Type 0 = λ all. NumbersRise low most (numbers_of_worker all w) in
        let there : P (its.before ++ e ∷ its.after) = subst P its.stands rises in
        (between its.before its.after e w low most (eqb-true e.receipt.worker w its.passes) there).within

-- An entry after others has a greater number than their last.
after_last : (before after : List Entry) (e : Entry) (w low most : ℕ) → e.receipt.worker ≡ w → NumbersRise low most (numbers_of_worker (before ++ e ∷ after) w)
    → last_number (last_entry_of_worker before w) < e.receipt.number
after_last before after e w low most by rises = go (last_entry_of_worker before w) refl
  where
    go : (last : Option Entry) → last_entry_of_worker before w ≡ last → last_number last < e.receipt.number
    go None is = let its = (between before after e w low most by rises).above in omega (arith, its)
    go (Some d) is =
        let its : IsLast (λ (x : Entry). x.receipt.worker == w) before d = last_stands _ before d is in
        let P : List Entry → Type 0 = λ all. NumbersRise low most (numbers_of_worker all w) in
        let all : before ++ e ∷ after ≡ its.before ++ d ∷ (its.after ++ e ∷ after) =
        ap (λ (front : List Entry). front ++ e ∷ after) its.stands ∙ append_assoc its.before (d ∷ its.after) (e ∷ after) in
        let first : IsBetween low most d (its.after ++ e ∷ after) w =
        between its.before (its.after ++ e ∷ after) d w low most (eqb-true d.receipt.worker w its.passes) (subst P all rises) in
        (between its.after after e w d.receipt.number most by first.rest).above

-- No entry has a number above the bound.
pub none_above : (es : List Entry) (w low most k : ℕ) → most < k → NumbersRise low most (numbers_of_worker es w) → has_entry es w k ≡ false
unfolding numbers_of_worker
none_above [] w low most k over rises = refl
none_above (e ∷ es) w low most k over rises = elim (cases_Bool (e.receipt.worker == w)) [
  | inl t ↦
      (let these : NumbersRise low most (e.receipt.number ∷ numbers_of_worker es w) = rw t at rises in
      let apart : e.receipt.number ≢ k = λ same. omega (arith, these.1, over, same) in
      rw (t, ne_eqb e.receipt.number k apart) (none_above es w e.receipt.number most k over these.2))
  | inr f ↦ (let these : NumbersRise low most (numbers_of_worker es w) = rw f at rises in rw f (none_above es w low most k over these))
]

-- The last entry is an entry of its number.
pub last_there : (es : List Entry) (e : Entry) (w k : ℕ) → last_entry_of_worker es w ≡ Some e → e.receipt.number ≡ k → has_entry es w k ≡ true
last_there es e w k found under =
    let test : Entry → Bool = λ d. (d.receipt.worker == w) && (d.receipt.number == k) in
    let its : IsLast (λ (d : Entry). d.receipt.worker == w) es e = last_stands _ es e found in
    let passes : test e ≡ true = and_from (e.receipt.worker == w) (e.receipt.number == k) its.passes (eq-eqb e.receipt.number k under) in
    ap (list_any test) its.stands ∙ list_any-append test its.before (e ∷ its.after)
    ∙ or_right (list_any test its.before) (list_any test (e ∷ its.after)) (or_left (test e) (list_any test its.after) passes)

-- If each entry's number is above the earlier ones, each worker's numbers rise.
module _ (s : Shape) (es : List Entry) (rise : EntryNumbersRise s es) (w : ℕ) where
  abbrev Rises : List Entry → Type 0
  Rises front = NumbersRise 0 (last_number (last_entry_of_worker front w)) (numbers_of_worker front w)

  one_more : (i : ℕ) (e : Entry) → slice_get es i ≡ Some e → Rises (take i es) → Rises (take i es ++ e ∷ [])
  one_more i e here rises = elim (cases_eq e.receipt.worker w) [
    | inl by ↦
        (let above : last_number (last_entry_of_worker (take i es) w) < e.receipt.number =
        subst (λ (v : ℕ). last_number (last_entry_of_worker (take i es) v) < e.receipt.number) by (rise i e here).above in
        rw (last_by_same (take i es) e w by, numbers_same (take i es) e w by)
        (rises_more 0 (last_number (last_entry_of_worker (take i es) w)) e.receipt.number (numbers_of_worker (take i es) w) (omega (arith, above)) above rises))
    | inr off ↦ rw (last_by_other (take i es) e w off, numbers_other (take i es) e w off) rises
  ]

  rises_to : (i : ℕ) → i ≤ length es → Rises (take i es)
  unfolding numbers_of_worker
  rises_to zero few = tt
  rises_to (suc i) few =
      let at : (e : Entry) × (slice_get es i ≡ Some e) = elim (slice_get_cases es i).1 [
        | inl inside ↦ (inside.0, inside.2)
        | inr past ↦ absurd (omega (arith, past.0, few))
      ] in
      let next : i + 1 ≡ suc i = omega arith in
      let front : take (suc i) es ≡ take i es ++ at.0 ∷ [] = subst (λ (n : ℕ). take n es ≡ take i es ++ at.0 ∷ []) next (take_next es i at.0 at.1) in
      subst Rises (sym front) (one_more i at.0 at.1 (rises_to i (omega (arith, few))))

  pub do_rise : NumbersRise 0 (last_number (last_entry_of_worker es w)) (numbers_of_worker es w)
  do_rise = subst Rises (take_all (length es) es (omega arith)) (rises_to (length es) (omega arith))

-- The converse.
pub rise_back : (s : Shape) (es : List Entry) (most : ℕ → ℕ) → HistoryIsLegal s es → ((w : ℕ) → w < s.workers → NumbersRise 0 (most w) (numbers_of_worker es w)) → EntryNumbersRise s es
rise_back s es most legal rises i e here =
    let both = (legal_both s es).0 legal in
    let follows : EntryFollows s (take i es) e = follows_in s es i e both.1 here in
    let within : i < length es = slice_get_within es i e here in
    let same : get_or es i e ≡ e = same_Some _ _ (sym (slice_get-get_or es i e within) ∙ here) in
    let worker : e.receipt.worker < s.workers = subst (λ (x : Entry). x.receipt.worker < s.workers) same (both.0 i e within) in
    let P : List Entry → Type 0 = λ all. NumbersRise 0 (most e.receipt.worker) (numbers_of_worker all e.receipt.worker) in
    record {
      worker = worker;
      lock = follows.job.lock;
      above = after_last (take i es) (drop (i + 1) es) e e.receipt.worker 0 (most e.receipt.worker) refl (subst P (cut es i e here) (rises e.receipt.worker worker));
    }
