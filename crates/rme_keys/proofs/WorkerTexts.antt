-- Texts that name workers and ranges of them.
use Rattle.std.proofs.Common.{◌≡◌, ◌==◌, ℕ, ◌+◌, ◌-◌, ◌*◌, ◌<◌, ◌≤◌, List, [], ◌∷◌, length, get_or, take, drop, Option, Some, None, MatchOption, position, codes, refl, sym, ap, ◌∙◌, subst, inl, inr, false, eq-eqb, below_more, arith}
use Rattle.std.proofs.lemmas.Bool.{cases_lt, false≢true}
use Rattle.std.proofs.lemmas.List.{at_drop_more, at_drop_all}
use Rattle.std.specs.Char.{IsAsciiDigit, IsNotAsciiDigit}
use Rattle.std.specs.List.{slice_split}
use Rattle.rme_keys.specs.Finding.{Finds, NameInTurn}
use Rattle.rme_keys.specs.Workers.{AreEndTexts, IsRangeText, IsSingleText, IsWorkerText, IsWorkersText, number_after}
use Rattle.rme_keys.specs.declared.workers.WorkerRange.{WorkerRange}

-- ---- one worker

-- more digits make no number smaller
number_after_le : (number : ℕ) (digits : List ℕ) → number ≤ number_after number digits
number_after_le number [] = omega arith
number_after_le number (digit ∷ digits) = omega (arith, number_after_le (10 * number + (digit - 48)) digits)

-- The bytes below an index are digits, of this number.
pub record NumberSoFar (text : List ℕ) (i worker : ℕ) : Type 0 where
  pub small : worker ≤ 255
  pub digits : (k : ℕ) → k < i → IsAsciiDigit (get_or text k 0)
  pub number : number_after worker (drop i text) ≡ number_after 0 text

pub number_none : (text : List ℕ) → NumberSoFar text 0 0
number_none text = record { small = omega arith; digits = λ k below. absurd (omega arith); number = refl }

step_is : (text : List ℕ) (i worker next : ℕ) → i < length text → next ≡ 10 * worker + (get_or text i 0 - 48)
    → number_after worker (drop i text) ≡ number_after next (drop (i + 1) text)
step_is text i worker next within is =
    at_drop_more (number_after worker) text i 0 within ∙ ap (λ (n : ℕ). number_after n (drop (i + 1) text)) (sym is)

pub number_more : (text : List ℕ) (i worker next : ℕ) → i < length text → NumberSoFar text i worker
    → IsAsciiDigit (get_or text i 0) → next ≡ 10 * worker + (get_or text i 0 - 48) → next ≤ 255
    → NumberSoFar text (i + 1) next
number_more text i worker next within so digit is few = record {
  small = few;
  digits = below_more (λ k. IsAsciiDigit (get_or text k 0)) i so.digits digit;
  number = sym (step_is text i worker next within is) ∙ so.number;
}

pub number_great : (text : List ℕ) (i worker next : ℕ) → i < length text → NumberSoFar text i worker
    → next ≡ 10 * worker + (get_or text i 0 - 48) → 255 < next → (w : ℕ) → IsWorkerText text w → ⊥
number_great text i worker next within so is great w named =
    omega (arith, named.number, named.small, number_after_le next (drop (i + 1) text), sym (step_is text i worker next within is) ∙ so.number)

-- a byte is no digit
pub number_stuck : (text : List ℕ) (i : ℕ) → i < length text → IsNotAsciiDigit (get_or text i 0) → (w : ℕ)
    → IsWorkerText text w → ⊥
number_stuck text i within other w named =
    let digit : IsAsciiDigit (get_or text i 0) = named.digits i within in
    elim other [ inl low ↦ omega (arith, low, digit.0) | inr high ↦ omega (arith, high, digit.1) ]

pub no_number : (text : List ℕ) → length text ≡ 0 → (w : ℕ) → IsWorkerText text w → ⊥
no_number text none w named = omega (arith, named.some)

-- a test for no bytes failed
pub some_bytes : (text : List ℕ) → false ≡ (length text == 0) → 0 < length text
some_bytes text other = elim (cases_lt 0 (length text)) [
  | inl some ↦ some
  | inr none ↦ absurd (false≢true (other ∙ eq-eqb (length text) 0 (omega arith)))
]

pub number_all : (text : List ℕ) (i worker : ℕ) → 0 < length text → length text ≤ i → NumberSoFar text i worker
    → IsWorkerText text worker
number_all text i worker some past so = record {
  some = some;
  digits = λ k within. so.digits k (omega arith);
  number = sym so.number ∙ at_drop_all (number_after worker) text i past;
  small = so.small;
}

-- ---- ranges

pub no_range : (first last : List ℕ) (low high : ℕ) → IsWorkerText first low → IsWorkerText last high → high < low
    → (range : WorkerRange) → AreEndTexts first last range → ⊥
no_range first last low high is_low is_high above range ends =
    omega (arith, is_low.number, is_high.number, ends.0.number, ends.1.number, ends.2)

pub range_by : (text : List ℕ) (at : Option ℕ) (found : Option WorkerRange) → at ≡ position (λ byte. byte == 45) text
    → Finds (λ (range : WorkerRange). MatchOption at (IsSingleText text range) (λ dash. AreEndTexts (take dash text)
    (drop (dash + 1) text) range)) found
    → Finds (IsRangeText text) found
range_by text at found is =
    let P : Option ℕ → Type 0 = λ (place : Option ℕ). Finds (λ (range : WorkerRange). MatchOption place (IsSingleText text range) (λ dash. AreEndTexts (take dash text) (drop (dash + 1) text) range)) found in
    subst P is

-- ---- all ranges of a text

pub no_workers : (text : List ℕ) (ranges : List WorkerRange) → text ≡ codes "-" → ranges ≡ []
    → IsWorkersText text ranges
no_workers text ranges is none = inl (is, none)

pub each_worker : (text : List ℕ) (ranges : List WorkerRange) → text ≡ codes "*"
    → ranges ≡ record { first = 0; last = 4294967295 } ∷ [] → IsWorkersText text ranges
each_worker text ranges is all = inr (inl (is, all))

pub some_workers : (text : List ℕ) (texts : List (List ℕ)) (found : Option (List WorkerRange)) → (text ≡ codes "-" → ⊥)
    → (text ≡ codes "*" → ⊥) → texts ≡ slice_split (λ byte. byte == 44) text
    → Finds (NameInTurn IsRangeText texts) found → Finds (IsWorkersText text) found
some_workers text texts None not_none not_all cut finds = λ ranges named. elim named [
  | inl none ↦ not_none none.0
  | inr (inl all) ↦ not_all all.0
  | inr (inr each) ↦ finds ranges (subst (λ (pieces : List (List ℕ)). NameInTurn IsRangeText pieces ranges) (sym cut) each)
]
some_workers text texts (Some ranges) not_none not_all cut finds =
    inr (inr (subst (λ (pieces : List (List ℕ)). NameInTurn IsRangeText pieces ranges) cut finds))
