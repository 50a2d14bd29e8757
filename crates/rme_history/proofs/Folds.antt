-- The state of a replay before any entry, and after one more.
use Rattle.std.proofs.Common.{◌≡◌, ℕ, ◌+◌, ◌<◌, List, [], ◌∷◌, ◌++◌, refl, sym, ◌∙◌, ap}
use Rattle.std.specs.Prelude.{replicate, slice_set}
use Rattle.rme_words.specs.declared.shape.Shape.{Shape}
use Rattle.rme_script.specs.Eval.{eval_of}
use Rattle.rme_program.specs.declared.note.Entry.{Entry}
use Rattle.rme_machine.specs.Histories.{place_of, row_after_entries, lock_row}
use Rattle.rme_machine.proofs.Historical.{place_same, place_other, row_same, row_other}
use Rattle.rme_machine.proofs.Lists.{made_of_one, made_set}
use Rattle.rme_history.specs.Folds.{IsReplayFold}

pub fold_none : (s : Shape) → IsReplayFold s [] (replicate s.locks (replicate s.cells 0)) (replicate s.locks 0)
unfolding place_of row_after_entries
fold_none s = record {
  rows = sym (made_of_one (λ (lock : ℕ). lock_row s [] lock) (replicate s.cells 0) 0 s.locks (λ lock below. refl));
  places = sym (made_of_one (λ (lock : ℕ). place_of [] lock) 0 0 s.locks (λ lock below. refl));
}

-- One more entry: its lock's row is the result of its script, and its lock has one more entry.
pub fold_more : (s : Shape) (es : List Entry) (e : Entry) (cells : List (List ℕ)) (counts row : List ℕ) (count : ℕ) → e.receipt.lock < s.locks
    → row ≡ (eval_of e.script.ops (lock_row s es e.receipt.lock)).row → count ≡ place_of es e.receipt.lock + 1
    → IsReplayFold s es cells counts → IsReplayFold s (es ++ e ∷ []) (slice_set cells e.receipt.lock row) (slice_set counts e.receipt.lock count)
fold_more s es e cells counts row count within left more fold = record {
  rows =
      ap (λ (old : List (List ℕ)). slice_set old e.receipt.lock row) fold.rows
      ∙ sym (made_set (λ (lock : ℕ). lock_row s es lock) (λ (lock : ℕ). lock_row s (es ++ e ∷ []) lock) s.locks e.receipt.lock row within
      (row_same (replicate s.cells 0) es e e.receipt.lock refl ∙ sym left)
      (λ lock below apart. row_other (replicate s.cells 0) es e lock (λ same. apart (sym same))));
  places =
      ap (λ (old : List ℕ). slice_set old e.receipt.lock count) fold.places
      ∙ sym (made_set (λ (lock : ℕ). place_of es lock) (λ (lock : ℕ). place_of (es ++ e ∷ []) lock) s.locks e.receipt.lock count within
      (place_same es e e.receipt.lock refl ∙ sym more)
      (λ lock below apart. place_other es e lock (λ same. apart (sym same))));
}
