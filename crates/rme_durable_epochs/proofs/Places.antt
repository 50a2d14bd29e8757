-- The entries of a lock, counted one by one.
use Rattle.std.proofs.Common.{◌≡◌, ◌<◌, ◌≤◌, ℕ, zero, suc, ◌+◌, ◌==◌, List, [], ◌∷◌, length, drop, refl, sym, ap, ◌∙◌, inl, inr, arith}
use Rattle.std.specs.Prelude.{Option, Some, None, option_map, slice_get, get_or, replicate}
use Rattle.std.proofs.lemmas.List.{get_or-replicate, get_or_past}
use lib.ListN.{length-replicate}
use Rattle.std.proofs.lemmas.Bool.{cases_Bool, cases_lt}
use Rattle.std.proofs.lemmas.Option.{none-some, same_Some}
use Rattle.rme_machine.specs.Histories.{place_of}
use Rattle.rme_program.specs.declared.note.Entry.{Entry}
use Rattle.rme_program.specs.declared.note.Receipt.{Receipt}
use Rattle.rme_durable_epochs.specs.EpochLengths.{AreSectionCounts, sections_of_lock}

found_of : (found : Option Entry) (receipt : Receipt) → option_map (λ (e : Entry). e.receipt) found ≡ Some receipt → (e : Entry) × (found ≡ Some e) × (e.receipt ≡ receipt)
found_of None receipt is = absurd (none-some receipt is)
found_of (Some e) receipt is = (e, refl, same_Some _ _ is)

drop_at : (es : List Entry) (at : ℕ) (e : Entry) → slice_get es at ≡ Some e → drop at es ≡ e ∷ drop (at + 1) es
drop_at [] at e is = absurd (none-some e is)
drop_at (d ∷ es) zero e is = ap (λ (x : Entry). x ∷ es) (same_Some _ _ is)
drop_at (d ∷ es) (suc at) e is =
    let one : suc (at + 1) ≡ suc at + 1 = omega arith in
    drop_at es at e is ∙ ap (λ (n : ℕ). e ∷ drop n (d ∷ es)) one

place_more : (e : Entry) (es : List Entry) (lock : ℕ) → place_of (e ∷ es) lock ≡ sections_of_lock e.receipt lock + place_of es lock
unfolding place_of
place_more e es lock = elim (cases_Bool (e.receipt.lock == lock)) [
  | inl t ↦ rw t (omega arith)
  | inr f ↦ rw f (omega arith)
]

pub place_counted : (es : List Entry) (at count lock : ℕ) (receipt : Receipt) → Some receipt ≡ option_map (λ (e : Entry). e.receipt) (slice_get es at) → count + place_of (drop at es) lock ≡ place_of es lock
    → (count + sections_of_lock receipt lock) + place_of (drop (at + 1) es) lock ≡ place_of es lock
place_counted es at count lock receipt is so_far =
    let e = found_of (slice_get es at) receipt (sym is) in
    let rest = ap (λ (xs : List Entry). place_of xs lock) (drop_at es at e.0 e.1) ∙ place_more e.0 (drop (at + 1) es) lock in
    let its = ap (λ (r : Receipt). sections_of_lock r lock) e.2 in
    omega (arith, so_far, rest, its)

pub sections_few : (receipt : Receipt) (lock : ℕ) → sections_of_lock receipt lock ≤ 1
sections_few receipt lock = elim (cases_Bool (receipt.lock == lock)) [
  | inl t ↦ rw t (omega arith)
  | inr f ↦ rw f (omega arith)
]

drop_none : (es : List Entry) → drop (length es) es ≡ []
drop_none [] = refl
drop_none (e ∷ es) = drop_none es

pub place_whole : (es : List Entry) (at count lock : ℕ) → at ≡ length es → count + place_of (drop at es) lock ≡ place_of es lock → count ≡ place_of es lock
unfolding place_of
place_whole es at count lock is so_far =
    let none : place_of (drop at es) lock ≡ 0 = ap (λ (n : ℕ). place_of (drop n es) lock) is ∙ ap (λ (xs : List Entry). place_of xs lock) (drop_none es) in
    omega (arith, so_far, none)

-- the counts of the entries so far, which with the rest of them are those of all
pub record CountsWithRest (es : List Entry) (at : ℕ) (counts : List ℕ) : Type 0 where
  pub all : length counts ≡ 16
  pub few : (lock : ℕ) → lock < 16 → get_or counts lock 0 ≤ at
  pub rest : (lock : ℕ) → lock < 16 → get_or counts lock 0 + place_of (drop at es) lock ≡ place_of es lock

pub counts_begin : (es : List Entry) (counts : List ℕ) → counts ≡ replicate 16 0 → CountsWithRest es 0 counts
counts_begin es counts is =
    let zero_at : (lock : ℕ) → lock < 16 → get_or counts lock 0 ≡ 0 = λ lock below. ap (λ (xs : List ℕ). get_or xs lock 0) is ∙ get_or-replicate 16 lock 0 0 below in
    record {
      all = ap (λ (xs : List ℕ). length xs) is ∙ length-replicate {A = ℕ} 16 0;
      few = λ lock below. omega (arith, zero_at lock below);
      rest = λ lock below. omega (arith, zero_at lock below);
    }

pub count_few : (es : List Entry) (at : ℕ) (counts : List ℕ) (lock : ℕ) → CountsWithRest es at counts → get_or counts lock 0 ≤ at
count_few es at counts lock so_far = elim (cases_lt lock 16) [
  | inl below ↦ so_far.few lock below
  | inr past ↦ (let none : get_or counts lock 0 ≡ 0 = get_or_past counts lock 0 (omega (arith, past, so_far.all)) in omega (arith, none))
]

pub counts_next : (es : List Entry) (at : ℕ) (old new : List ℕ) (receipt : Receipt) → Some receipt ≡ option_map (λ (e : Entry). e.receipt) (slice_get es at) → CountsWithRest es at old
    → length new ≡ length old → ((lock : ℕ) → lock < length old → get_or new lock 0 ≡ get_or old lock 0 + sections_of_lock receipt lock) → CountsWithRest es (at + 1) new
counts_next es at old new receipt is so_far same more =
    let each : (lock : ℕ) → lock < 16 → get_or new lock 0 ≡ get_or old lock 0 + sections_of_lock receipt lock = λ lock below. more lock (omega (arith, below, so_far.all)) in
    record {
      all = same ∙ so_far.all;
      few = λ lock below. omega (arith, each lock below, sections_few receipt lock, so_far.few lock below);
      rest = λ lock below. ap (λ (n : ℕ). n + place_of (drop (at + 1) es) lock) (each lock below) ∙ place_counted es at (get_or old lock 0) lock receipt is (so_far.rest lock below);
    }

pub counts_whole : (es : List Entry) (at : ℕ) (counts : List ℕ) → at ≡ length es → CountsWithRest es at counts → AreSectionCounts es counts
counts_whole es at counts is so_far lock below = place_whole es at (get_or counts lock 0) lock is (so_far.rest lock below)
