-- The compare-and-swap that appends an entry preserves the rule of the log.
use Rattle.std.proofs.Common.{◌≡◌, ℕ, suc, ◌<◌, ◌==◌, Bool, true, false, List, [], ◌∷◌, ◌++◌, length, refl, ap, sym, subst, arith, inl, length-append, None}
use Rattle.std.proofs.lemmas.List.{append-nil}
use Rattle.std.proofs.lemmas.Bool.Decides.{nat_tests}
use mathlib.Core.List.{IsPrefix}
use prog.Atomic.{either}
use Rattle.logbook.specs.Pages.{Cell, cell, keeps, no_nib, step, Moves, Goes}
use Rattle.rme_durable_log.specs.declared.log_entry.LogEntry.{LogEntry}
use Rattle.rme_durable_log.specs.LogRules.{IsLogState, AppendsEntry}
use Rattle.rme_durable_log.proofs.Fronts.{prefix_whole}

abbrev pub shown : List LogEntry → List LogEntry
shown log = []

abbrev pub moved : List LogEntry → List LogEntry → ℕ → Type 0
moved xs ys n = Unit {0}

pub tells_goes : (log v : List LogEntry) (e : LogEntry) (old next told : ℕ) → length v ≡ suc old → next ≡ suc old → IsPrefix v log → length log ≡ suc told
    → (b : Bool) → (told == old) ≡ b
    → Goes IsLogState shown moved 0 (v, (no_nib, None)) (λ n. either (n == old) next n) (AppendsEntry (step 0 old next e) (v, (no_nib, None))) ((told, true) ∷ []) log
tells_goes log v e old next told len more pre counted true is =
    let here : told ≡ old = grind (arith, nat_tests) in
    let same : v ≡ log = prefix_whole v log pre (omega (arith, len, counted, here)) in
    let n : length (log ++ e ∷ []) ≡ suc (either (told == old) next told) = rw is (omega (arith, length-append log (e ∷ []), counted, here, more)) in (
      keeps,
      e ∷ [],
      None,
      tt,
      record { told = either (told == old) next told; words = refl; counted = n },
      inl (refl, refl),
      λ found. ap (λ w. w ++ e ∷ []) (sym same),
    )
tells_goes log v e old next told len more pre counted false is =
    let away : told ≡ old → ⊥ = λ q. grind (arith, nat_tests) in
    let n : length (log ++ []) ≡ suc (either (told == old) next told) = rw is (omega (arith, ap length (append-nil log), counted)) in (
      keeps,
      [],
      None,
      tt,
      record { told = either (told == old) next told; words = refl; counted = n },
      inl (refl, refl),
      λ found. absurd (away found),
    )

-- whatever the log is, the compare-and-swap appends the entry after all entries seen, or finds that others were
-- appended
pub tells_moves : (v : List LogEntry) (e : LogEntry) (old next : ℕ) → length v ≡ suc old → next ≡ suc old
    → Moves IsLogState shown moved 0 (v, (no_nib, None)) (λ n. either (n == old) next n) (AppendsEntry (step 0 old next e) (v, (no_nib, None)))
tells_moves v e old next len more cs log is pre away =
    let P : List Cell → Type 0 = λ c. (0 < length c) × ((cell c 0).1 ≡ true) × Goes IsLogState shown moved 0 (v, (no_nib, None)) (λ n. either (n == old) next n) (AppendsEntry (step 0 old next e) (v, (no_nib, None))) c log in
    subst P (sym is.words) (omega arith, refl, tells_goes log v e old next is.told len more pre is.counted (is.told == old) refl)
