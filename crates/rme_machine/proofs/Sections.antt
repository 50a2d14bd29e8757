-- The entries of one lock, and the last of them.
use Rattle.std.proofs.Common.{◌≡◌, ℕ, ◌+◌, refl, sym, ◌∙◌, ap, inl, inr, arith, length, take}
use Rattle.std.specs.Prelude.{Bool, ◌==◌, List, [], ◌∷◌, ◌++◌, filter, replicate, slice_get, Some}
use Rattle.std.proofs.lemmas.Bool.{cases_Bool, eqb-true}
use Rattle.std.proofs.lemmas.List.{take_at, length-append}
use Rattle.std.proofs.Math.Seq.{take-length}
use Rattle.std.proofs.lemmas.List.Elements.{filter-append}
use Rattle.rme_words.specs.declared.shape.Shape.{Shape}
use Rattle.rme_script.specs.Eval.{eval_of}
use Rattle.rme_script.proofs.Lists.{get_seam}
use Rattle.rme_program.specs.declared.note.Entry.{Entry}
use Rattle.rme_machine.specs.Histories.{history_of_lock, place_of, row_after_entries, lock_row, last_entry_of_lock, IsLegalNextEntry, HistoryIsLegal}
use Rattle.rme_machine.specs.Clauses.{row_before_place}
use Rattle.rme_machine.proofs.Historical.{row_same}
use Rattle.rme_machine.proofs.Lasts.{IsLast, last_stands, last_due}

-- Their number is the place of the next section, and the rows are their fold.
pub place_count : (es : List Entry) (l : ℕ) → place_of es l ≡ length (history_of_lock es l)
unfolding place_of
place_count [] l = refl
place_count (e ∷ es) l = elim (cases_Bool (e.receipt.lock == l)) [
  | inl here ↦ rw here (omega (arith, place_count es l))
  | inr off ↦ rw off (place_count es l)
]

pub row_entries : (row : List ℕ) (es : List Entry) (l : ℕ) → row_after_entries row es l ≡ row_after_entries row (history_of_lock es l) l
unfolding row_after_entries
row_entries row [] l = refl
row_entries row (e ∷ es) l = elim (cases_Bool (e.receipt.lock == l)) [
  | inl here ↦ rw here (rw here (row_entries (eval_of e.script.ops row).row es l))
  | inr off ↦ rw off (row_entries row es l)
]

pub rows_all : (s : Shape) (es : List Entry) (l : ℕ) → row_before_place s es l (place_of es l) ≡ lock_row s es l
rows_all s es l =
    ap (λ (n : ℕ). row_before_place s es l n) (place_count es l)
    ∙ ap (λ (some : List Entry). row_after_entries (replicate s.cells 0) some l) (take-length (history_of_lock es l))
    ∙ sym (row_entries (replicate s.cells 0) es l)

-- The last entry of a lock in a legal history: it has the last place, its reply is that of its script on the fold of
-- the entries before it, and the rows are the result of the script on that fold.
pub record IsLastSection (s : Shape) (es : List Entry) (l : ℕ) (e : Entry) : Type 0 where
  pub place : ℕ
  pub next : place_of es l ≡ place + 1
  pub there : slice_get (history_of_lock es l) place ≡ Some e
  pub row : lock_row s es l ≡ (eval_of e.script.ops (row_before_place s es l place)).row
  pub reply : e.receipt.reply ≡ (eval_of e.script.ops (row_before_place s es l place)).reply

pub last_section : (s : Shape) (es : List Entry) (l : ℕ) (e : Entry) → HistoryIsLegal s es → last_entry_of_lock es l ≡ Some e → IsLastSection s es l e
last_section s es l e legal found =
    let test : Entry → Bool = λ d. d.receipt.lock == l in
    let last : IsLast test es e = last_stands test es e found in
    let due : IsLegalNextEntry s last.before e = last_due s test es e legal last in
    let before : List Entry = history_of_lock last.before l in
    let at : e.receipt.lock ≡ l = eqb-true e.receipt.lock l last.passes in
    let all : history_of_lock es l ≡ before ++ e ∷ [] = ap (filter test) last.stands ∙ filter-append test last.before (e ∷ last.after) ∙ rw last.passes (rw last.none refl) in
    let front : take (length before) (history_of_lock es l) ≡ before = ap (take (length before)) all ∙ take_at before (e ∷ []) (length before) refl in
    let fold : row_before_place s es l (length before) ≡ lock_row s last.before l =
    ap (λ (some : List Entry). row_after_entries (replicate s.cells 0) some l) front ∙ sym (row_entries (replicate s.cells 0) last.before l) in
    record {
      place = length before;
      next = place_count es l ∙ ap length all ∙ length-append before (e ∷ []);
      there = ap (λ (some : List Entry). slice_get some (length before)) all ∙ get_seam before [] e;
      row = row_entries (replicate s.cells 0) es l ∙ ap (λ (some : List Entry). row_after_entries (replicate s.cells 0) some l) all
          ∙ row_same (replicate s.cells 0) before e l at
          ∙ ap (λ (row : List ℕ). (eval_of e.script.ops row).row) (sym (row_entries (replicate s.cells 0) last.before l) ∙ sym fold);
      reply = due.follows.reply ∙ ap (λ (lock : ℕ). (eval_of e.script.ops (lock_row s last.before lock)).reply) at ∙ ap (λ (row : List ℕ). (eval_of e.script.ops row).reply) (sym fold);
    }
