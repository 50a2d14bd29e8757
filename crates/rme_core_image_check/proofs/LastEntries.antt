-- The last entries of all workers and locks, as they are found in order.
use Rattle.std.proofs.Common.{◌≡◌, ℕ, ◌+◌, ◌<◌, ◌≤◌, List, [], ◌∷◌, ◌++◌, length, take, get_or, refl, sym, ◌∙◌, ap, subst, arith}
use Rattle.std.specs.Prelude.{Option, Some, None, map, slice_get, slice_set, ◌==◌, filter, Bool}
use Rattle.std.specs.List.{range_with_len}
use Rattle.std.proofs.lemmas.Bool.{eqb-true}
use Rattle.std.proofs.lemmas.List.{length-append}
use Rattle.std.proofs.lemmas.List.Elements.{filter-append}
use Rattle.std.proofs.lemmas.Option.{same_Some}
use Rattle.rme_words.specs.declared.shape.Shape.{Shape}
use Rattle.rme_script.proofs.Lists.{take_next}
use Rattle.rme_program.specs.declared.note.Entry.{Entry}
use Rattle.rme_machine.specs.Histories.{last_entry_passing, last_entry_of_worker, last_entry_of_lock, history_of_lock, place_of, IsLegalNextEntry, HistoryIsLegal}
use Rattle.rme_machine.proofs.Historical.{last_by_same, last_by_other, last_at_same, last_at_other}
use Rattle.rme_machine.proofs.Lasts.{IsLast, last_stands, last_due, none_passes}
use Rattle.rme_machine.proofs.Lists.{made_at, made_long, made_set}
use Rattle.rme_machine.proofs.Sections.{place_count}
use Rattle.rme_core_image_check.specs.LastEntryLists.{last_number, next_place, EntryMayFollow, EntryMayFollowAt, AreLastEntries}

-- Before any entry there is none.
pub lasts_none : (s : Shape) (by at : List (Option Entry)) → by ≡ map (λ (i : ℕ). None) (range_with_len 0 s.workers) → at ≡ map (λ (i : ℕ). None) (range_with_len 0 s.locks) → AreLastEntries s [] by at
unfolding last_entry_passing
lasts_none s by at workers locks = record { workers = workers; locks = locks }

-- One more entry is the last of its worker and of its lock.
lasts_more : (s : Shape) (es : List Entry) (e : Entry) (by at : List (Option Entry)) → e.receipt.worker < s.workers → e.receipt.lock < s.locks → AreLastEntries s es by at
    → AreLastEntries s (es ++ e ∷ []) (slice_set by e.receipt.worker (Some e)) (slice_set at e.receipt.lock (Some e))
lasts_more s es e by at worker lock lasts = record {
  workers =
      ap (λ (old : List (Option Entry)). slice_set old e.receipt.worker (Some e)) lasts.workers
      ∙ sym (made_set (λ (w : ℕ). last_entry_of_worker es w) (λ (w : ℕ). last_entry_of_worker (es ++ e ∷ []) w) s.workers e.receipt.worker (Some e) worker
      (last_by_same es e e.receipt.worker refl) (λ w below apart. last_by_other es e w (λ same. apart (sym same))));
  locks =
      ap (λ (old : List (Option Entry)). slice_set old e.receipt.lock (Some e)) lasts.locks
      ∙ sym (made_set (λ (l : ℕ). last_entry_of_lock es l) (λ (l : ℕ). last_entry_of_lock (es ++ e ∷ []) l) s.locks e.receipt.lock (Some e) lock
      (last_at_same es e e.receipt.lock refl) (λ l below apart. last_at_other es e l (λ same. apart (sym same))));
}

pub lasts_long : (s : Shape) (es : List Entry) (by at : List (Option Entry)) → AreLastEntries s es by at → (length by ≡ s.workers) × (length at ≡ s.locks)
lasts_long s es by at lasts = (
  ap (λ (xs : List (Option Entry)). length xs) lasts.workers ∙ made_long (λ (w : ℕ). last_entry_of_worker es w) s.workers,
  ap (λ (xs : List (Option Entry)). length xs) lasts.locks ∙ made_long (λ (l : ℕ). last_entry_of_lock es l) s.locks,
)

-- They are the same for the same shape, and for the same lists.
pub lasts_same : (s t : Shape) (es : List Entry) (by at xs ys : List (Option Entry)) → s ≡ t → xs ≡ by → ys ≡ at → AreLastEntries s es by at → AreLastEntries t es xs ys
lasts_same s t es by at xs ys shape workers locks lasts =
    subst (λ (u : Shape). AreLastEntries u es xs ys) shape record { workers = workers ∙ lasts.workers; locks = locks ∙ lasts.locks }

-- The entry at i, which is e, after the last entries of those before it.
module _ (s : Shape) (entries : List Entry) (i : ℕ) (e : Entry) (by at : List (Option Entry)) (here : slice_get entries i ≡ Some e)
    (lasts : AreLastEntries s (take i entries) by at) where
  pub not_followed : (EntryMayFollow s (take i entries) e → ⊥) → EntryMayFollowAt s entries i → ⊥
  not_followed broken all = broken (all e here)

  pub worker_reach : e.receipt.worker < s.workers → e.receipt.worker < length by
  worker_reach below = let long = (lasts_long s (take i entries) by at lasts).0 in omega (arith, below, long)

  pub lock_reach : e.receipt.lock < s.locks → e.receipt.lock < length at
  lock_reach below = let long = (lasts_long s (take i entries) by at lasts).1 in omega (arith, below, long)

  last_read : (last : Option Entry) → e.receipt.worker < s.workers → last ≡ get_or by e.receipt.worker last → last ≡ last_entry_of_worker (take i entries) e.receipt.worker
  last_read last below read =
      read ∙ ap (λ (xs : List (Option Entry)). get_or xs e.receipt.worker last) lasts.workers ∙ made_at (λ (w : ℕ). last_entry_of_worker (take i entries) w) s.workers e.receipt.worker last below

  pub not_above : (last : Option Entry) → e.receipt.worker < s.workers → last ≡ get_or by e.receipt.worker last → e.receipt.number ≤ last_number last → EntryMayFollowAt s entries i → ⊥
  not_above last below read few = not_followed (λ follows.
      let same : last_number last ≡ last_number (last_entry_of_worker (take i entries) e.receipt.worker) = ap last_number (last_read last below read) in
      let above = follows.above in
      omega (arith, same, above, few))

  pub followed : (last : Option Entry) → e.receipt.worker < s.workers → e.receipt.lock < s.locks → last ≡ get_or by e.receipt.worker last → last_number last < e.receipt.number → EntryMayFollowAt s entries i
  followed last worker lock read above d there =
      let same : last_number last ≡ last_number (last_entry_of_worker (take i entries) e.receipt.worker) = ap last_number (last_read last worker read) in
      subst (λ (x : Entry). EntryMayFollow s (take i entries) x) (same_Some e d (sym here ∙ there)) record { worker = worker; lock = lock; above = omega (arith, same, above) }

  pub lasts_followed : e.receipt.worker < s.workers → e.receipt.lock < s.locks → AreLastEntries s (take (i + 1) entries) (slice_set by e.receipt.worker (Some e)) (slice_set at e.receipt.lock (Some e))
  lasts_followed worker lock =
      subst (λ (es : List Entry). AreLastEntries s es (slice_set by e.receipt.worker (Some e)) (slice_set at e.receipt.lock (Some e))) (sym (take_next entries i e here))
      (lasts_more s (take i entries) e by at worker lock lasts)

-- In a legal history the last entry of a lock determines the place of the next section.
pub placed : (s : Shape) (es : List Entry) (l : ℕ) → HistoryIsLegal s es → next_place (last_entry_of_lock es l) ≡ place_of es l
placed s es l legal = go (last_entry_of_lock es l) refl
  where
    test : Entry → Bool
    test d = d.receipt.lock == l

    go : (last : Option Entry) → last_entry_of_lock es l ≡ last → next_place last ≡ place_of es l
    go None is = let none = ap (λ (xs : List Entry). length xs) (none_passes test es is) in let count = place_count es l in omega (arith, none, count)
    go (Some e) is =
        let its : IsLast test es e = last_stands test es e is in
        let due : IsLegalNextEntry s its.before e = last_due s test es e legal its in
        let at : e.receipt.lock ≡ l = eqb-true e.receipt.lock l its.passes in
        let all : history_of_lock es l ≡ history_of_lock its.before l ++ e ∷ [] =
        ap (filter test) its.stands ∙ filter-append test its.before (e ∷ its.after) ∙ rw its.passes (rw its.none refl) in
        let long : length (history_of_lock es l) ≡ length (history_of_lock its.before l) + 1 = ap (λ (xs : List Entry). length xs) all ∙ length-append (history_of_lock its.before l) (e ∷ []) in
        let place : e.receipt.place ≡ place_of its.before l = due.follows.place ∙ ap (λ (k : ℕ). place_of its.before k) at in
        omega (arith, long, place, place_count es l, place_count its.before l)
