-- The action of a section's stage is its row's at its place, and the length of the row.
use Rattle.std.proofs.Common.{◌≡◌, ℕ, ◌+◌, ◌*◌, ◌/◌, ◌%◌, ◌<◌, ◌==◌, true, false, List, [], ◌∷◌, ◌++◌, length, map, refl, sym, ap, ◌∙◌, inl, inr, arith, length-append}
use Rattle.std.specs.Prelude.{Some, slice_index}
use Rattle.std.specs.List.{slice_get}
use Rattle.std.proofs.lemmas.Bool.{cases_eq, eq-eqb, ne_eqb}
use Rattle.rme_words.specs.declared.shape.Shape.{Shape}
use Rattle.rme_words.specs.declared.address.Address.TheVariants.{Done, Reply, Place, At, SlateLen, SlateWord, Turn, Cell, Shadow, ShadowReply, Mask}
use Rattle.rme_script.specs.Cells.{mask_has_cell, ops_name_cell, cells_of_ops, mask_cells}
use Rattle.rme_script.specs.Eval.{eval_of}
use Rattle.rme_script.proofs.Rising.{cells_named_mask, has_named}
use Rattle.rme_program.specs.declared.action.Action.{Action}
use Rattle.rme_program.specs.declared.action.Action.TheVariants.{Load, Store}
use Rattle.rme_program.specs.declared.stage.Log.{Log}
use Rattle.rme_program.specs.declared.stage.Log.TheVariants.{LoadTurn, LoadLen, LoadSlate, LoadCells, StoreShadows, StoreShadowReply, StoreMask, StoreTurn}
use Rattle.rme_program.specs.declared.stage.Redo.{Redo}
use Rattle.rme_program.specs.declared.stage.Redo.TheVariants.{LoadMask, LoadShadow, StoreCell, LoadReply, StoreReply, StorePlace, StoreAt, StoreDone}
use Rattle.rme_program.specs.declared.stage.Parity.TheVariants.{Even, Odd}
use Rattle.rme_program.specs.Conditions.{IsLogStage, IsRedoStage}
use Rattle.rme_program.specs.Masks.{mask_of}
use Rattle.rme_program.specs.Phases.{mask_cells_below}
use Rattle.rme_program.specs.Steps.{log_action, redo_action}
use Rattle.rme_program.specs.Table.{Reading, actions_for_each, log_row, redo_row, even_row, odd_row, section_row}
use Rattle.rme_program.specs.StepsMade.{steps_before_redo, steps_made_in_log, steps_made_in_redo}
use Rattle.rme_program.specs.Stays.{IsEvenReading, reading_parity, LogIsInStay, RedoIsInStay}
use Rattle.rme_program.proofs.Lists.{at_left, at_right, at_each, length_each, at_named, length_named, pairs, at_load, at_store, length_pairs}
use Rattle.rme_program.proofs.MaskLemmas.{mask_of-is_mask}

module _ (shape : Shape) (worker known lock : ℕ) (reading : Reading) where
  abbrev pub named : ℕ
  named = mask_of reading.script.ops

  -- The named cells are those of the script's mask.
  pub named_cells : cells_of_ops reading.script.ops shape.cells ≡ mask_cells named shape.cells
  named_cells = sym (cells_named_mask named reading.script.ops (mask_of-is_mask reading.script.ops) shape.cells)

  abbrev load_word : ℕ → Action
  load_word i = Load (SlateWord worker (i / 3) (i % 3))

  abbrev load_cell : ℕ → Action
  load_cell c = Load (Cell lock c)

  abbrev store_shadow : ℕ → Action
  store_shadow c = Store (Shadow lock c) (slice_index (eval_of reading.script.ops reading.cells).row c)

  abbrev words : List Action
  words = actions_for_each (3 * reading.script.n) load_word

  abbrev loads : List Action
  loads = map load_cell (mask_cells named shape.cells)

  abbrev stores : List Action
  stores = map store_shadow (mask_cells named shape.cells)

  abbrev log_end : List Action
  log_end =
      Store (ShadowReply lock) (eval_of reading.script.ops reading.cells).reply ∷ Store (Mask lock) named ∷ Store (Turn lock) (reading.turn + 1) ∷ []

  abbrev log : List Action
  log = log_row shape worker lock reading.turn reading.script reading.cells

  log_is : log ≡ Load (Turn lock) ∷ Load (SlateLen worker) ∷ (words ++ (loads ++ (stores ++ log_end)))
  log_is = rw named_cells refl

  abbrev t : ℕ
  t = mask_cells_below named shape.cells

  -- ---- the places of the even row, up to the load of the mask

  word_at : (i : ℕ) → i < 3 * reading.script.n → slice_get log (2 + i) ≡ Some (load_word i)
  word_at i l =
      ap (λ (xs : List Action). slice_get xs (2 + i)) log_is
      ∙ at_right (Load (Turn lock) ∷ Load (SlateLen worker) ∷ []) (words ++ (loads ++ (stores ++ log_end))) i (2 + i) (load_word i)
      (at_left words (loads ++ (stores ++ log_end)) i (load_word i) (at_each (3 * reading.script.n) load_word i l)) refl

  past_words : (k j : ℕ) (a : Action) → slice_get (loads ++ (stores ++ log_end)) k ≡ Some a → j ≡ 2 + 3 * reading.script.n + k → slice_get log j ≡ Some a
  past_words k j a h e =
      ap (λ (xs : List Action). slice_get xs j) log_is
      ∙ at_right (Load (Turn lock) ∷ Load (SlateLen worker) ∷ []) (words ++ (loads ++ (stores ++ log_end))) (3 * reading.script.n + k) j a
      (at_right words (loads ++ (stores ++ log_end)) k (3 * reading.script.n + k) a h (omega (arith, length_each (3 * reading.script.n) load_word)))
      (omega (arith, e))

  cell_at : (c j : ℕ) → c < shape.cells → mask_has_cell named c ≡ true → j ≡ 2 + 3 * reading.script.n + mask_cells_below named c → slice_get log j ≡ Some (load_cell c)
  cell_at c j l s e =
      past_words (mask_cells_below named c) j (load_cell c)
      (at_left loads (stores ++ log_end) (mask_cells_below named c) (load_cell c) (at_named load_cell named shape.cells c l s)) e

  shadow_at : (c j : ℕ) → c < shape.cells → mask_has_cell named c ≡ true → j ≡ 2 + 3 * reading.script.n + t + mask_cells_below named c → slice_get log j ≡ Some (store_shadow c)
  shadow_at c j l s e =
      past_words (t + mask_cells_below named c) j (store_shadow c)
      (at_right loads (stores ++ log_end) (mask_cells_below named c) (t + mask_cells_below named c) (store_shadow c)
      (at_left stores log_end (mask_cells_below named c) (store_shadow c) (at_named store_shadow named shape.cells c l s))
      (omega (arith, length_named load_cell named shape.cells)))
      (omega (arith, e))

  end_at : (k j : ℕ) (a : Action) → slice_get log_end k ≡ Some a → j ≡ 2 + 3 * reading.script.n + 2 * t + k → slice_get log j ≡ Some a
  end_at k j a h e =
      past_words (2 * t + k) j a
      (at_right loads (stores ++ log_end) (t + k) (2 * t + k) a
      (at_right stores log_end k (t + k) a h (omega (arith, length_named store_shadow named shape.cells)))
      (omega (arith, length_named load_cell named shape.cells)))
      (omega (arith, e))

  pub log_length : length log ≡ 5 + 3 * reading.script.n + 2 * length (cells_of_ops reading.script.ops shape.cells)
  log_length =
      let same : length (cells_of_ops reading.script.ops shape.cells) ≡ t = ap (λ (xs : List ℕ). length xs) named_cells in
      ap (λ (xs : List Action). length xs) log_is
      ∙ omega (
        arith,
        same,
        length-append words (loads ++ (stores ++ log_end)),
        length-append loads (stores ++ log_end),
        length-append stores log_end,
        length_each (3 * reading.script.n) load_word,
        length_named load_cell named shape.cells,
        length_named store_shadow named shape.cells,
      )

  -- ---- the places of the row from the load of the mask on

  abbrev load_shadow : ℕ → Action
  load_shadow c = Load (Shadow lock c)

  abbrev store_cell : ℕ → Action
  store_cell c = Store (Cell lock c) (slice_index reading.shadows c)

  abbrev copies : List Action
  copies = pairs load_shadow store_cell (mask_cells reading.mask shape.cells)

  abbrev redo_end : List Action
  redo_end =
      Load (ShadowReply lock) ∷ Store (Reply worker) reading.reply ∷ Store (Place worker) (reading.turn / 2) ∷ Store (At worker) lock ∷ Store (Done worker) known ∷ []

  abbrev redo : List Action
  redo = redo_row shape worker known lock reading

  copies_length : length copies ≡ 2 * mask_cells_below reading.mask shape.cells
  copies_length = length_pairs load_shadow store_cell (mask_cells reading.mask shape.cells)

  copy_at : (k : ℕ) (a : Action) → slice_get copies k ≡ Some a → slice_get redo (1 + k) ≡ Some a
  copy_at k a h = at_right (Load (Mask lock) ∷ []) (copies ++ redo_end) k (1 + k) a (at_left copies redo_end k a h) refl

  redo_end_at : (k : ℕ) (a : Action) → slice_get redo_end k ≡ Some a → slice_get redo (1 + 2 * mask_cells_below reading.mask shape.cells + k) ≡ Some a
  redo_end_at k a h =
      at_right (Load (Mask lock) ∷ []) (copies ++ redo_end) (2 * mask_cells_below reading.mask shape.cells + k) (1 + 2 * mask_cells_below reading.mask shape.cells + k) a
      (at_right copies redo_end k (2 * mask_cells_below reading.mask shape.cells + k) a h (omega (arith, copies_length)))
      (omega arith)

  pub redo_length : length redo ≡ 6 + 2 * mask_cells_below reading.mask shape.cells
  redo_length = omega (arith, length-append copies redo_end, copies_length)

  -- ---- the whole row

  abbrev section : List Action
  section = section_row shape worker known lock reading

  pub even_length : length (even_row shape worker known lock reading) ≡ 11 + 3 * reading.script.n + 2 * length (cells_of_ops reading.script.ops shape.cells) + 2 * mask_cells_below reading.mask shape.cells
  even_length = omega (arith, length-append log redo, log_length, redo_length)

  pub odd_length : length (odd_row shape worker known lock reading) ≡ 7 + 2 * mask_cells_below reading.mask shape.cells
  odd_length = omega (arith, redo_length)

  pub section_length : length section ≡ steps_before_redo shape (reading_parity reading) + (6 + 2 * mask_cells_below reading.mask shape.cells)
  section_length = elim (cases_eq (reading.turn % 2) 0) [
    | inl q ↦
        let same : length (cells_of_ops reading.script.ops shape.cells) ≡ t = ap (λ (xs : List ℕ). length xs) named_cells in
        rw (eq-eqb (reading.turn % 2) 0 q) (omega (arith, even_length, same))
    | inr n ↦ rw (ne_eqb (reading.turn % 2) 0 n) (omega (arith, odd_length))
  ]

  in_even : (k : ℕ) (a : Action) → IsEvenReading reading → slice_get log k ≡ Some a → slice_get section k ≡ Some a
  in_even k a even h = rw (eq-eqb (reading.turn % 2) 0 even) (at_left log redo k a h)

  in_redo : (k j : ℕ) (a : Action) → slice_get redo k ≡ Some a → j ≡ steps_before_redo shape (reading_parity reading) + k → slice_get section j ≡ Some a
  in_redo k j a h e = elim (cases_eq (reading.turn % 2) 0) [
    | inl q ↦
        let b : (reading.turn % 2 == 0) ≡ true = eq-eqb (reading.turn % 2) 0 q in
        let place : j ≡ steps_before_redo shape (Even reading.script.n named) + k = rw b at e in
        let same : length (cells_of_ops reading.script.ops shape.cells) ≡ t = ap (λ (xs : List ℕ). length xs) named_cells in
        rw b (at_right log redo k j a h (omega (arith, place, same, log_length)))
    | inr n ↦
        let b : (reading.turn % 2 == 0) ≡ false = ne_eqb (reading.turn % 2) 0 n in
        let place : j ≡ steps_before_redo shape Odd + k = rw b at e in
        rw b (at_right (Load (Turn lock) ∷ []) redo k j a h (omega (arith, place)))
  ]

  turn_at : slice_get section 0 ≡ Some (Load (Turn lock))
  turn_at = elim (cases_eq (reading.turn % 2) 0) [
    | inl q ↦ rw (eq-eqb (reading.turn % 2) 0 q) refl
    | inr n ↦ rw (ne_eqb (reading.turn % 2) 0 n) refl
  ]

  even_parity : IsEvenReading reading → reading_parity reading ≡ Even reading.script.n named
  even_parity even = rw (eq-eqb (reading.turn % 2) 0 even) refl

  pub log_at : (stage : Log) → IsLogStage shape stage → LogIsInStay shape lock reading stage → slice_get section (steps_made_in_log shape stage) ≡ Some (log_action worker stage)
  log_at (LoadTurn here) is fits = rw fits turn_at
  log_at (LoadLen here turn) is fits = in_even 1 (Load (SlateLen worker)) fits.0 refl
  log_at (LoadSlate here turn operations list loaded) is fits =
      in_even (2 + loaded) (load_word loaded) fits.0 (word_at loaded (omega (arith, is.2, fits.3)))
  log_at (LoadCells here turn script mask row cell) is fits =
      rw (fits.1, fits.3, fits.4) (in_even _ (load_cell cell) fits.0
      (cell_at cell (2 + 3 * reading.script.n + mask_cells_below named cell) is.1 (ap (λ (m : ℕ). mask_has_cell m cell) (sym fits.4) ∙ fits.5) refl))
  log_at (StoreShadows visit mask row reply cell) is fits =
      let set : mask_has_cell named cell ≡ true = ap (λ (m : ℕ). mask_has_cell m cell) (sym fits.2) ∙ fits.3 in
      let by : ops_name_cell reading.script.ops cell ≡ true = sym (has_named named reading.script.ops (mask_of-is_mask reading.script.ops) cell) ∙ set in
      let same : slice_index row cell ≡ slice_index (eval_of reading.script.ops reading.cells).row cell = fits.4 cell is.1 by in
      rw (fits.1, fits.2, same, even_parity fits.0) (in_even _ _ fits.0 (shadow_at cell _ is.1 set refl))
  log_at (StoreShadowReply visit mask reply) is fits =
      rw (fits.1, fits.3, even_parity fits.0) (in_even _ _ fits.0 (end_at 0 _ _ refl (omega arith)))
  log_at (StoreMask visit mask) is fits = rw (fits.1, fits.2, even_parity fits.0) (in_even _ _ fits.0 (end_at 1 _ _ refl (omega arith)))
  log_at (StoreTurn visit) is fits = rw (fits.1, even_parity fits.0) (in_even _ _ fits.0 (end_at 2 _ _ refl (omega arith)))

  pub redo_at : (stage : Redo) → IsRedoStage shape stage → RedoIsInStay lock reading stage → slice_get section (steps_made_in_redo shape stage) ≡ Some (redo_action worker known stage)
  redo_at (LoadMask visit) is fits = rw fits (in_redo 0 _ _ refl (omega arith))
  redo_at (LoadShadow visit mask cell) is fits =
      let set : mask_has_cell reading.mask cell ≡ true = ap (λ (m : ℕ). mask_has_cell m cell) (sym fits.1) ∙ fits.2 in
      rw (fits.0, fits.1) (in_redo (1 + 2 * mask_cells_below reading.mask cell) _ (load_shadow cell)
      (copy_at (2 * mask_cells_below reading.mask cell) (load_shadow cell) (at_load load_shadow store_cell reading.mask shape.cells cell is.1 set)) refl)
  redo_at (StoreCell visit mask cell value) is fits =
      let set : mask_has_cell reading.mask cell ≡ true = ap (λ (m : ℕ). mask_has_cell m cell) (sym fits.1) ∙ fits.2 in
      rw (fits.0, fits.1, fits.3) (in_redo (1 + (2 * mask_cells_below reading.mask cell + 1)) _ (store_cell cell)
      (copy_at (2 * mask_cells_below reading.mask cell + 1) (store_cell cell) (at_store load_shadow store_cell reading.mask shape.cells cell is.1 set)) (omega arith))
  redo_at (LoadReply visit mask) is fits = rw (fits.0, fits.1) (in_redo (1 + 2 * mask_cells_below reading.mask shape.cells + 0) _ _ (redo_end_at 0 _ refl) (omega arith))
  redo_at (StoreReply visit mask reply) is fits = rw (fits.0, fits.1, fits.2) (in_redo (1 + 2 * mask_cells_below reading.mask shape.cells + 1) _ _ (redo_end_at 1 _ refl) (omega arith))
  redo_at (StorePlace visit mask reply) is fits = rw (fits.0, fits.1) (in_redo (1 + 2 * mask_cells_below reading.mask shape.cells + 2) _ _ (redo_end_at 2 _ refl) (omega arith))
  redo_at (StoreAt visit mask reply) is fits = rw (fits.0, fits.1) (in_redo (1 + 2 * mask_cells_below reading.mask shape.cells + 3) _ _ (redo_end_at 3 _ refl) (omega arith))
  redo_at (StoreDone visit mask reply) is fits = rw (fits.0, fits.1) (in_redo (1 + 2 * mask_cells_below reading.mask shape.cells + 4) _ _ (redo_end_at 4 _ refl) (omega arith))
