-- After each load and store, a section's stage is one of its stay, one place further.
use Rattle.std.proofs.Common.{◌≡◌, ◌≢◌, ℕ, ◌+◌, ◌*◌, ◌/◌, ◌%◌, ◌<◌, ◌≤◌, ◌==◌, true, false, List, [], ◌∷◌, ◌++◌, length, take, replicate, refl, sym, ap, subst, ◌∙◌, inl, inr, arith}
use Rattle.std.specs.Prelude.{Option, Some, None, slice_index, slice_set}
use Rattle.std.proofs.lemmas.Bool.{cases_eq, cases_lt, eq-eqb, ne_eqb, false≢true}
use Rattle.std.proofs.lemmas.List.{get_or-set_same, get_or-set_other, length-set, take_more, take_more_set, take_all, length-replicate}
use Rattle.rme_words.specs.declared.shape.Shape.{Shape}
use Rattle.rme_script.specs.Cells.{mask_has_cell, ops_name_cell}
use Rattle.rme_script.specs.Eval.{eval_of}
use Rattle.rme_script.specs.RowAgreement.{RowsAgreeOnNamed}
use Rattle.rme_script.specs.Slates.{ops_words, script_from_words}
use Rattle.rme_script.proofs.Rising.{has_named}
use Rattle.rme_script.proofs.Laws.{eval_local}
use Rattle.rme_script.proofs.Slates.{slate_some}
use Rattle.rme_script.proofs.Slating.{words_length}
use Rattle.rme_script.proofs.Weaker.{IsScript_slate, named_below}
use Rattle.rme_program.specs.declared.stage.Stage.{Stage}
use Rattle.rme_program.specs.declared.stage.Log.{Log}
use Rattle.rme_program.specs.declared.stage.Log.TheVariants.{LoadTurn, LoadLen, LoadSlate, LoadCells, StoreShadows, StoreShadowReply, StoreMask, StoreTurn}
use Rattle.rme_program.specs.declared.stage.Redo.{Redo}
use Rattle.rme_program.specs.declared.stage.Redo.TheVariants.{LoadMask, LoadShadow, StoreCell, LoadReply, StoreReply, StorePlace, StoreAt, StoreDone}
use Rattle.rme_program.specs.declared.stage.Visit.{Visit}
use Rattle.rme_program.specs.declared.stage.Parity.TheVariants.{Even}
use Rattle.rme_program.specs.Conditions.{IsLogStage, IsRedoStage}
use Rattle.rme_program.specs.Masks.{mask_of, first_cell}
use Rattle.rme_program.specs.Phases.{mask_cells_below}
use Rattle.rme_program.specs.Steps.{shadow_stage_from, run_stage, cell_stage_from, script_stage, slate_stage, turn_stage, copy_stage_from, after_log, after_redo, log_action, redo_action, logging_section}
use Rattle.rme_program.specs.Table.{Reading}
use Rattle.rme_program.specs.StepsMade.{steps_before_redo, steps_made_in_log, steps_made_in_redo}
use Rattle.rme_program.specs.Stays.{Stay, InSection, IsReading, IsEvenReading, reading_parity, reading_visit, RowsAgreeBefore, LogIsInStay, RedoIsInStay, StageIsInStay, steps_made_in_row, StayLoadFinds}
use Rattle.rme_program.proofs.Firsts.{FirstCell, first_some, first_none, none_left, below_more, below_zero}
use Rattle.rme_program.proofs.MaskLemmas.{mask_of-is_mask}

module _ (shape : Shape) (known lock : ℕ) (reading : Reading) (is : IsReading shape reading) where
  abbrev named : ℕ
  named = mask_of reading.script.ops

  abbrev stay : Stay
  stay = InSection lock reading

  -- The stage is one of the stay, and this number of steps of its row are made.
  abbrev pub FitsAt : Stage → ℕ → Type 0
  FitsAt stage place = StageIsInStay shape known stay stage × (steps_made_in_row shape stay stage ≡ place)

  named_has : (c : ℕ) → mask_has_cell named c ≡ ops_name_cell reading.script.ops c
  named_has c = has_named named reading.script.ops (mask_of-is_mask reading.script.ops) c

  even_parity : IsEvenReading reading → reading_parity reading ≡ Even reading.script.n named
  even_parity even = rw (eq-eqb (reading.turn % 2) 0 even) refl

  even_visit : IsEvenReading reading → reading_visit lock reading ≡ record { lock = lock; turn = reading.turn; parity = Even reading.script.n named }
  even_visit even = rw (eq-eqb (reading.turn % 2) 0 even) refl

  -- ---- the shadow words

  abbrev Results : List ℕ → ℕ → Type 0
  Results row reply =
      RowsAgreeBefore reading shape.cells row (eval_of reading.script.ops reading.cells).row × (reply ≡ (eval_of reading.script.ops reading.cells).reply)

  shadows_found : (row : List ℕ) (reply from : ℕ) (found : Option ℕ) → IsEvenReading reading → Results row reply → from ≤ shape.cells → first_cell named from shape.cells ≡ found
      → FitsAt (shadow_stage_from (reading_visit lock reading) named row reply found) (2 + 3 * reading.script.n + mask_cells_below named shape.cells + mask_cells_below named from)
  shadows_found row reply from (Some cell) even results le e =
      let first : FirstCell named from shape.cells cell = first_some named from shape.cells cell le e in
      ((is, (even, refl, refl, first.set, results.0, results.1)), rw (even_parity even) (omega (arith, first.same)))
  shadows_found row reply from None even results le e =
      ((is, (even, refl, refl, results.1)), rw (even_parity even) (omega (arith, first_none named from shape.cells le e)))

  shadows_fit : (row : List ℕ) (reply from : ℕ) → IsEvenReading reading → Results row reply → from ≤ shape.cells
      → FitsAt (shadow_stage_from (reading_visit lock reading) named row reply (first_cell named from shape.cells)) (2 + 3 * reading.script.n + mask_cells_below named shape.cells + mask_cells_below named from)
  shadows_fit row reply from even results le = shadows_found row reply from (first_cell named from shape.cells) even results le refl

  -- ---- the run

  -- A script has the same result in the named cells of both rows.
  results : (row : List ℕ) → length row ≡ shape.cells → RowsAgreeBefore reading shape.cells row reading.cells → Results (eval_of reading.script.ops row).row (eval_of reading.script.ops row).reply
  results row long agree =
      let agree_named : RowsAgreeOnNamed reading.script.ops row reading.cells = record {
        long = long ∙ sym is.cells;
        at = λ c by. agree c (named_below shape.cells reading.script.ops c is.script.within by) by;
      } in
      let same : RowsAgreeOnNamed reading.script.ops (eval_of reading.script.ops row).row (eval_of reading.script.ops reading.cells).row × ((eval_of reading.script.ops row).reply ≡ (eval_of reading.script.ops reading.cells).reply)
      = eval_local reading.script.ops row reading.cells agree_named in
      (λ c l by. same.0.at c by, same.1)

  run_fit : (row : List ℕ) → IsEvenReading reading → length row ≡ shape.cells → RowsAgreeBefore reading shape.cells row reading.cells
      → FitsAt (run_stage shape (logging_section lock reading.turn reading.script named) row) (2 + 3 * reading.script.n + mask_cells_below named shape.cells)
  run_fit row even long agree =
      let fit : FitsAt (shadow_stage_from (reading_visit lock reading) named (eval_of reading.script.ops row).row (eval_of reading.script.ops row).reply (first_cell named 0 shape.cells)) (2 + 3 * reading.script.n + mask_cells_below named shape.cells + mask_cells_below named 0)
      = shadows_fit (eval_of reading.script.ops row).row (eval_of reading.script.ops row).reply 0 even (results row long agree) (omega arith) in
      let P : Visit → Type 0 = λ visit. FitsAt (shadow_stage_from visit named (eval_of reading.script.ops row).row (eval_of reading.script.ops row).reply (first_cell named 0 shape.cells)) (2 + 3 * reading.script.n + mask_cells_below named shape.cells + mask_cells_below named 0) in
      let there : P record { lock = lock; turn = reading.turn; parity = Even reading.script.n named } = subst P (even_visit even) fit in
      (there.0, there.1 ∙ omega (arith, below_zero named))

  -- ---- the named cells

  agree_to : (row : List ℕ) (from to : ℕ) → RowsAgreeBefore reading from row reading.cells → ((k : ℕ) → from ≤ k → k < to → mask_has_cell named k ≡ false) → RowsAgreeBefore reading to row reading.cells
  agree_to row from to agree none c l by = elim (cases_lt c from) [
    | inl before ↦ agree c before by
    | inr after ↦ absurd (false≢true (sym (none c after l) ∙ named_has c ∙ by))
  ]

  cells_found : (row : List ℕ) (from : ℕ) (found : Option ℕ) → IsEvenReading reading → length row ≡ shape.cells → RowsAgreeBefore reading from row reading.cells → from ≤ shape.cells
      → first_cell named from shape.cells ≡ found
      → FitsAt (cell_stage_from shape (logging_section lock reading.turn reading.script named) row found) (2 + 3 * reading.script.n + mask_cells_below named from)
  cells_found row from (Some cell) even long agree le e =
      let first : FirstCell named from shape.cells cell = first_some named from shape.cells cell le e in
      ((is, (even, refl, refl, refl, refl, first.set, long, agree_to row from cell agree first.none)), omega (arith, first.same))
  cells_found row from None even long agree le e =
      let all : RowsAgreeBefore reading shape.cells row reading.cells = agree_to row from shape.cells agree (λ k a b. none_left named from shape.cells k e a b) in
      let run : FitsAt (run_stage shape (logging_section lock reading.turn reading.script named) row) (2 + 3 * reading.script.n + mask_cells_below named shape.cells) = run_fit row even long all in
      (run.0, run.1 ∙ omega (arith, first_none named from shape.cells le e))

  cells_fit : (row : List ℕ) (from : ℕ) → IsEvenReading reading → length row ≡ shape.cells → RowsAgreeBefore reading from row reading.cells → from ≤ shape.cells
      → FitsAt (cell_stage_from shape (logging_section lock reading.turn reading.script named) row (first_cell named from shape.cells)) (2 + 3 * reading.script.n + mask_cells_below named from)
  cells_fit row from even long agree le = cells_found row from (first_cell named from shape.cells) even long agree le refl

  agree_more : (row : List ℕ) (cell value : ℕ) → length row ≡ shape.cells → cell < shape.cells → RowsAgreeBefore reading cell row reading.cells → value ≡ slice_index reading.cells cell
      → RowsAgreeBefore reading (cell + 1) (slice_set row cell value) reading.cells
  agree_more row cell value long l agree found c below by = elim (cases_eq c cell) [
    | inl q ↦ rw q (get_or-set_same row cell value 0 (omega (arith, l, long)) ∙ found)
    | inr n ↦ get_or-set_other row cell c value 0 n ∙ agree c (omega (arith, below, n)) by
  ]

  -- ---- the slate

  script_fit : IsEvenReading reading → FitsAt (script_stage shape lock reading.turn (Some reading.script)) (2 + 3 * reading.script.n)
  script_fit even =
      let fit : FitsAt (cell_stage_from shape (logging_section lock reading.turn reading.script named) (replicate shape.cells 0) (first_cell named 0 shape.cells)) (2 + 3 * reading.script.n + mask_cells_below named 0)
      = cells_fit (replicate shape.cells 0) 0 even (length-replicate shape.cells 0) (λ c l by. absurd (omega (arith, l))) (omega arith) in
      (fit.0, fit.1 ∙ omega (arith, below_zero named))

  long_words : length (ops_words reading.script.ops) ≡ 3 * reading.script.n
  long_words = omega (arith, words_length reading.script.ops, is.script.counted)

  -- The words of the script determine it.
  whole_slate : (words : List ℕ) → take (3 * reading.script.n) words ≡ take (3 * reading.script.n) (ops_words reading.script.ops) → script_from_words reading.script.n words ≡ Some reading.script
  whole_slate words same =
      slate_some reading.script.n words reading.script record {
        counted = refl;
        script = IsScript_slate shape reading.script is.script;
        first = same ∙ take_all (3 * reading.script.n) (ops_words reading.script.ops) (omega (arith, long_words));
      }

  slate_fit : (words : List ℕ) (loaded : ℕ) → IsEvenReading reading → length words ≡ 24 → take loaded words ≡ take loaded (ops_words reading.script.ops)
      → FitsAt (slate_stage shape lock reading.turn reading.script.n words loaded) (2 + loaded)
  slate_fit words loaded even long same = elim (cases_eq loaded (3 * reading.script.n)) [
    | inl q ↦
        let all : take (3 * reading.script.n) words ≡ take (3 * reading.script.n) (ops_words reading.script.ops) = subst (λ (k : ℕ). take k words ≡ take k (ops_words reading.script.ops)) q same in
        let fit : FitsAt (script_stage shape lock reading.turn (Some reading.script)) (2 + 3 * reading.script.n) = script_fit even in
        rw (eq-eqb loaded (3 * reading.script.n) q, whole_slate words all, q) fit
    | inr n ↦ rw (ne_eqb loaded (3 * reading.script.n) n) ((is, (even, refl, refl, refl, long, same)), refl)
  ]

  word_more : (words : List ℕ) (loaded value : ℕ) → length words ≡ 24 → reading.script.n ≤ 8 → loaded < 3 * reading.script.n → take loaded words ≡ take loaded (ops_words reading.script.ops)
      → value ≡ slice_index (ops_words reading.script.ops) (3 * (loaded / 3) + loaded % 3)
      → take (loaded + 1) (slice_set words loaded value) ≡ take (loaded + 1) (ops_words reading.script.ops)
  word_more words loaded value long few l same found =
      let here : 3 * (loaded / 3) + loaded % 3 ≡ loaded = omega arith in
      let this : value ≡ slice_index (ops_words reading.script.ops) loaded = found ∙ ap (λ (k : ℕ). slice_index (ops_words reading.script.ops) k) here in
      take_more_set words loaded value (omega (arith, long, few, l))
      ∙ ap (λ (ws : List ℕ). ws ++ value ∷ []) same
      ∙ ap (λ (v : ℕ). take loaded (ops_words reading.script.ops) ++ v ∷ []) this
      ∙ sym (take_more (ops_words reading.script.ops) loaded 0 (omega (arith, long_words, l)))

  -- ---- the turn

  turn_fit : FitsAt (turn_stage lock reading.turn) 1
  turn_fit = elim (cases_eq (reading.turn % 2) 0) [
    | inl q ↦ rw (eq-eqb (reading.turn % 2) 0 q) ((is, (q, refl, refl)), refl)
    | inr n ↦ let b : (reading.turn % 2 == 0) ≡ false = ne_eqb (reading.turn % 2) 0 n in rw b ((is, rw b refl), refl)
  ]

  -- ---- each step that stores the result of the script

  pub log_fits : (worker : ℕ) (log : Log) (value : ℕ) → IsLogStage shape log → LogIsInStay shape lock reading log → StayLoadFinds stay (log_action worker log) value
      → FitsAt (after_log shape log value) (steps_made_in_log shape log + 1)
  log_fits worker (LoadTurn here) value at fits finds = rw (fits, finds) turn_fit
  log_fits worker (LoadLen here turn) value at fits finds =
      rw (fits.1, fits.2, finds) (slate_fit (replicate 24 0) 0 fits.0 refl refl)
  log_fits worker (LoadSlate here turn operations words loaded) value at fits finds =
      let more : take (loaded + 1) (slice_set words loaded value) ≡ take (loaded + 1) (ops_words reading.script.ops) = word_more words loaded value fits.4 is.script.few (omega (arith, at.2, fits.3)) fits.5 finds in
      let fit : FitsAt (slate_stage shape lock reading.turn reading.script.n (slice_set words loaded value) (loaded + 1)) (2 + (loaded + 1)) = slate_fit (slice_set words loaded value) (loaded + 1) fits.0 (length-set words loaded value ∙ fits.4) more in
      rw (fits.1, fits.2, fits.3) (fit.0, fit.1 ∙ omega arith)
  log_fits worker (LoadCells here turn script mask row cell) value at fits finds =
      let set : mask_has_cell named cell ≡ true = ap (λ (m : ℕ). mask_has_cell m cell) (sym fits.4) ∙ fits.5 in
      let fit : FitsAt (cell_stage_from shape (logging_section lock reading.turn reading.script named) (slice_set row cell value) (first_cell named (cell + 1) shape.cells)) (2 + 3 * reading.script.n + mask_cells_below named (cell + 1))
      = cells_fit (slice_set row cell value) (cell + 1) fits.0 (length-set row cell value ∙ fits.6) (agree_more row cell value fits.6 at.1 fits.7 finds) (omega (arith, at.1)) in
      rw (fits.1, fits.2, fits.3, fits.4) (fit.0, fit.1 ∙ omega (arith, below_more named cell set))
  log_fits worker (StoreShadows visit mask row reply cell) value at fits finds =
      let set : mask_has_cell named cell ≡ true = ap (λ (m : ℕ). mask_has_cell m cell) (sym fits.2) ∙ fits.3 in
      let fit : FitsAt (shadow_stage_from (reading_visit lock reading) named row reply (first_cell named (cell + 1) shape.cells)) (2 + 3 * reading.script.n + mask_cells_below named shape.cells + mask_cells_below named (cell + 1))
      = shadows_fit row reply (cell + 1) fits.0 (fits.4, fits.5) (omega (arith, at.1)) in
      rw (fits.1, fits.2) (fit.0, fit.1 ∙ rw (even_parity fits.0) (omega (arith, below_more named cell set)))
  log_fits worker (StoreShadowReply visit mask reply) value at fits finds = ((is, (fits.0, fits.1, fits.2)), refl)
  log_fits worker (StoreMask visit mask) value at fits finds = ((is, (fits.0, fits.1)), omega arith)
  log_fits worker (StoreTurn visit) value at fits finds = ((is, fits.1), rw (fits.1, even_parity fits.0) (omega arith))

  -- ---- each step that copies

  copies_found : (from : ℕ) (found : Option ℕ) → from ≤ shape.cells → first_cell reading.mask from shape.cells ≡ found
      → FitsAt (copy_stage_from (reading_visit lock reading) reading.mask found) (steps_before_redo shape (reading_parity reading) + (1 + 2 * mask_cells_below reading.mask from))
  copies_found from (Some cell) le e =
      let first : FirstCell reading.mask from shape.cells cell = first_some reading.mask from shape.cells cell le e in
      ((is, (refl, refl, first.set)), ap (λ (k : ℕ). steps_before_redo shape (reading_parity reading) + (1 + 2 * k)) first.same)
  copies_found from None le e =
      ((is, (refl, refl)), ap (λ (k : ℕ). steps_before_redo shape (reading_parity reading) + (1 + 2 * k)) (first_none reading.mask from shape.cells le e))

  pub redo_fits : (worker : ℕ) (redo : Redo) (value : ℕ) → IsRedoStage shape redo → RedoIsInStay lock reading redo → StayLoadFinds stay (redo_action worker known redo) value
      → ((visit : Visit) (mask reply : ℕ) → redo ≢ StoreDone visit mask reply)
      → FitsAt (after_redo shape worker known redo value).0 (steps_made_in_redo shape redo + 1)
  redo_fits worker (LoadMask visit) value at fits finds more =
      let fit : FitsAt (copy_stage_from (reading_visit lock reading) reading.mask (first_cell reading.mask 0 shape.cells)) (steps_before_redo shape (reading_parity reading) + (1 + 2 * mask_cells_below reading.mask 0))
      = copies_found 0 (first_cell reading.mask 0 shape.cells) (omega arith) refl in
      rw (fits, finds) (fit.0, fit.1 ∙ omega (arith, below_zero reading.mask))
  redo_fits worker (LoadShadow visit mask cell) value at fits finds more = ((is, (fits.0, fits.1, fits.2, finds)), omega arith)
  redo_fits worker (StoreCell visit mask cell copied) value at fits finds more =
      let set : mask_has_cell reading.mask cell ≡ true = ap (λ (m : ℕ). mask_has_cell m cell) (sym fits.1) ∙ fits.2 in
      let fit : FitsAt (copy_stage_from (reading_visit lock reading) reading.mask (first_cell reading.mask (cell + 1) shape.cells)) (steps_before_redo shape (reading_parity reading) + (1 + 2 * mask_cells_below reading.mask (cell + 1)))
      = copies_found (cell + 1) (first_cell reading.mask (cell + 1) shape.cells) (omega (arith, at.1)) refl in
      rw (fits.0, fits.1) (fit.0, fit.1 ∙ omega (arith, below_more reading.mask cell set))
  redo_fits worker (LoadReply visit mask) value at fits finds more = ((is, (fits.0, fits.1, finds)), omega arith)
  redo_fits worker (StoreReply visit mask reply) value at fits finds more = ((is, (fits.0, fits.1, fits.2)), omega arith)
  redo_fits worker (StorePlace visit mask reply) value at fits finds more = ((is, (fits.0, fits.1, fits.2)), omega arith)
  redo_fits worker (StoreAt visit mask reply) value at fits finds more = ((is, (fits.0, fits.1, fits.2)), omega arith)
  redo_fits worker (StoreDone visit mask reply) value at fits finds more = absurd (more visit mask reply refl)
