-- Texts of cells and of locks, written in order.
use Rattle.std.proofs.Common.{◌≡◌, ℕ, ◌+◌, ◌<◌, Bor, List, [], ◌∷◌, ◌++◌, length, drop, get_or, ap, ◌∙◌, refl, sym, append_assoc}
use Rattle.std.proofs.lemmas.List.{drop_more}
use Rattle.std.proofs.lemmas.Option.{slice_get_past, slice_get_read}
use Rattle.std.specs.Prelude.{slice_get, Option, Some, None}
use Rattle.std.specs.Option.{option_copied}
use Rattle.std.specs.Slice.{IsItemAt}
use Rattle.rme_table.specs.declared.closed.CountedLock.{CountedLock}
use Rattle.rme_cli_commands.specs.FinalReports.{spaced_cell_text, spaced_cells_text, lock_text_at, lock_texts_from}

-- the text of the cells so far, followed by that of the others, is the text of all
abbrev pub CellsSoFar : List ℕ → List ℕ → List ℕ → ℕ → Type 0
CellsSoFar start cells out index = out ++ spaced_cells_text (drop index cells) ≡ start ++ spaced_cells_text cells

pub next_cell : (start cells out after : List ℕ) (index cell : ℕ) → index < length cells → cell ≡ get_or cells index 0
    → CellsSoFar start cells out index → after ≡ out ++ spaced_cell_text cell
    → CellsSoFar start cells after (index + 1)
next_cell start cells out after index cell within here so_far grows =
    ap (λ (xs : List ℕ). xs ++ spaced_cells_text (drop (index + 1) cells)) grows ∙ append_assoc out (spaced_cell_text cell) (spaced_cells_text (drop (index + 1) cells))
    ∙ ap (λ (x : ℕ). out ++ spaced_cells_text (x ∷ drop (index + 1) cells)) here ∙ sym (ap (λ (xs : List ℕ). out ++ spaced_cells_text xs) (drop_more cells index 0 within)) ∙ so_far

-- the text of the locks so far, followed by that of the others, is the text of all
abbrev pub LocksSoFar : (List ℕ → CountedLock → List ℕ) → List CountedLock → List ℕ → List (List ℕ) → List ℕ → ℕ
    → Type 0
LocksSoFar text locks start names out number = out ++ lock_texts_from text locks number (drop number names) ≡ start ++ lock_texts_from text locks 0 names

pub next_lock : (text : List ℕ → CountedLock → List ℕ) (locks : List CountedLock) (start : List ℕ) (names : List
    (List ℕ)) (out after : List ℕ) (number : ℕ)
    → number < length names
    → LocksSoFar text locks start names out number → after ≡ out ++ lock_text_at text (get_or names number []) (slice_get locks number) → LocksSoFar text locks start names after (number + 1)
next_lock text locks start names out after number within so_far grows =
    let line = lock_text_at text (get_or names number []) (slice_get locks number) in
    let rest = lock_texts_from text locks (number + 1) (drop (number + 1) names) in
    ap (λ (xs : List ℕ). xs ++ rest) grows ∙ append_assoc out line rest
    ∙ sym (ap (λ (xs : List (List ℕ)). out ++ lock_texts_from text locks number xs) (drop_more names number [] within)) ∙ so_far

-- the lock that a look-up by its number borrows
lent_is : (locks : List CountedLock) (number : ℕ) (lent : Option (Bor CountedLock)) → IsItemAt locks number lent
    → option_copied lent ≡ slice_get locks number
lent_is locks number None is = sym (slice_get_past locks number is.3)
lent_is locks number (Some lock) is = sym (slice_get_read locks (length locks) number lock.now refl is.3.0 is.1)

pub text_there : (text : List ℕ → CountedLock → List ℕ) (locks : List CountedLock) (names : List (List ℕ))
    (out : List ℕ) (number : ℕ) (lent : Option (Bor CountedLock)) (name : List ℕ)
    → name ≡ get_or names number [] → IsItemAt locks number lent → out ++ lock_text_at text name (option_copied lent) ≡ out ++ lock_text_at text (get_or names number []) (slice_get locks number)
text_there text locks names out number lent name named is =
    ap (λ (n : List ℕ). out ++ lock_text_at text n (option_copied lent)) named ∙ ap (λ (lock : Option CountedLock). out ++ lock_text_at text (get_or names number []) lock) (lent_is locks number lent is)
