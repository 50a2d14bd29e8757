-- What the loads of a section lead to, where they find an even turn and the slate that is guessed.
use Rattle.std.proofs.Common.{◌≡◌, inl, inr, ℕ, ◌+◌, ◌*◌, ◌/◌, ◌%◌, ◌<◌, ◌≤◌, ◌^◌, Bool, List, [], ◌++◌, length, take, drop, replicate, refl, sym, ap, subst, ◌∙◌, arith}
use Rattle.std.specs.Prelude.{Option, Some, None, if◌then◌else◌, ◌==◌, slice_index, slice_set}
use Rattle.std.proofs.lemmas.Bool.{ne_eqb, eq-eqb}
use Rattle.std.proofs.lemmas.List.{length-set, length-replicate, length-append, take-append-drop}
use Rattle.std.proofs.lemmas.Option.{slice_get-get_or}
use Rattle.rme_words.specs.declared.shape.Shape.{Shape}
use Rattle.rme_words.specs.declared.address.Address.TheVariants.{SlateLen, SlateWord, Turn, Cell}
use Rattle.rme_words.specs.Words.{word_number}
use Rattle.rme_script.specs.Programs.{Program}
use Rattle.std.proofs.lemmas.List.Elements.{All-nil}
use Rattle.rme_script.specs.Scripts.{IsScript, OpIsWithin}
use Rattle.rme_script.specs.Slates.{IsSlate, script_from_words}
use Rattle.rme_script.proofs.Slates.{slate_some}
use Rattle.rme_script.proofs.Slating.{words_length}
use Rattle.rme_script.proofs.Lists.{take_stored}
use Rattle.rme_program.specs.Masks.{first_cell, mask_of}
use Rattle.rme_program.specs.declared.note.Note.TheVariants.{Quiet}
use Rattle.rme_program.specs.declared.private.Private.{Private}
use Rattle.rme_program.specs.declared.stage.Stage.{Stage}
use Rattle.rme_program.specs.declared.stage.Stage.TheVariants.{Logging, Copying}
use Rattle.rme_program.specs.declared.stage.Log.TheVariants.{LoadTurn, LoadLen, LoadSlate, LoadCells}
use Rattle.rme_program.specs.declared.stage.Redo.TheVariants.{LoadMask}
use Rattle.rme_program.specs.declared.stage.Parity.TheVariants.{Odd}
use Rattle.rme_program.specs.Steps.{slate_stage, script_stage, cell_stage_from, run_stage, logging_section}
use Rattle.rme_process_core.specs.declared.flat.FlatAction.{FlatAction}
use Rattle.rme_process_core.specs.Flat.{flat_load, flat_expecting_load, flat_even_load}
use Rattle.rme_process_core.specs.declared.flat.Batch.{Batch}
use Rattle.rme_process_core.specs.Batches.{batch_actions}
use Rattle.rme_process_core.specs.Runs.{PredictsUpTo, PredictsUpToSome, IsLoadingSlate, IsLoadingCells, private_at_stage}
use Rattle.rme_process_core.specs.ExpectedSlates.{IsExpectedSlate}
use Rattle.rme_process_core.proofs.Telling.{Goes, Steps}

module _ (shape : Shape) (worker begun lock : ℕ) where
  -- ---- the turn and the length

  pub even_goes : (turn : ℕ) → turn < 2 ^ 32 → turn % 2 ≡ 0 → Goes shape (private_at_stage worker begun (Logging (LoadTurn lock))) turn Quiet (λ p. p ≡ private_at_stage worker begun (Logging (LoadLen lock turn)))
  even_goes turn small even =
      let P : ℕ → Type 0 = λ r. private_at_stage worker begun (if r == 0 then Logging (LoadLen lock turn) else Copying (LoadMask record { lock = lock; turn = turn; parity = Odd })) ≡ private_at_stage worker begun (Logging (LoadLen lock turn)) in
      record { takes = small; says = refl; next = subst P (sym even) refl }

  -- At some turn.
  pub record KnowsTurn (p : Private) : Type 0 where
    pub turn : ℕ
    pub here : p ≡ private_at_stage worker begun (Logging (LoadLen lock turn))

  pub even_step : Steps shape (private_at_stage worker begun (Logging (LoadTurn lock))) (flat_even_load (word_number shape (Turn lock))) Quiet KnowsTurn
  even_step = record {
    busy = λ e. cc;
    does = (inr (inr refl), refl);
    goes = λ value goes. let both = goes.even refl in let it = even_goes value both.0 both.1 in record { takes = it.takes; says = it.says; next = record { turn = value; here = it.next } };
  }

  -- ---- the slate

  -- So many words of it were found to be the guessed ones.
  pub record ReadsSlate (turn n : ℕ) (words : List ℕ) (at : ℕ) (p : Private) : Type 0 where
    pub read : List ℕ
    pub here : p ≡ private_at_stage worker begun (slate_stage shape lock turn n read at)
    pub long : length read ≡ 24
    pub same : take at read ≡ take at words

  pub length_goes : (turn n : ℕ) (words : List ℕ) → n ≤ 8 → Goes shape (private_at_stage worker begun (Logging (LoadLen lock turn))) n Quiet (ReadsSlate turn n words 0)
  length_goes turn n words few = record { takes = few; says = refl; next = record { read = replicate 24 0; here = refl; long = length-replicate {A = ℕ} 24 0; same = refl } }

  module _ (turn n : ℕ) (words : List ℕ) (script : Program) (few : n ≤ 8) (slate : IsSlate n words script) (fits : IsScript shape.cells script) where
    -- There are as many words as the script has.
    all_there : 3 * n ≤ length words
    all_there =
        let first : length (take (3 * n) words) ≡ 3 * length script.ops = ap (λ (ws : List ℕ). length ws) slate.first ∙ words_length script.ops in
        let both : length (take (3 * n) words ++ drop (3 * n) words) ≡ length words = ap (λ (ws : List ℕ). length ws) (take-append-drop (3 * n) words) in
        omega (arith, first, both, length-append (take (3 * n) words) (drop (3 * n) words), fits.counted, slate.counted)

    -- The guessed words are the script's.
    read_script : (read : List ℕ) → take (3 * n) read ≡ take (3 * n) words → script_from_words n read ≡ Some script
    read_script read same = slate_some n read script record { counted = slate.counted; script = slate.script; first = same ∙ slate.first }

    word_goes_at : (read : List ℕ) (at : ℕ) → at < 3 * n → length read ≡ 24 → take at read ≡ take at words
        → Goes shape (private_at_stage worker begun (Logging (LoadSlate lock turn n read at))) (slice_index words at) Quiet (ReadsSlate turn n words (at + 1))
    word_goes_at read at below whole same =
        let more : List ℕ = slice_set read at (slice_index words at) in
        let agree : take (at + 1) more ≡ take (at + 1) words =
        take_stored read words at (slice_index words at) (omega (arith, whole, below, few)) (slice_get-get_or words at 0 (omega (arith, all_there, below))) same in
        let P : ℕ → Type 0 = λ k. take k more ≡ take k words in
        record {
          takes = λ last. (script, read_script more (subst P last agree), fits);
          says = refl;
          next = record { read = more; here = refl; long = length-set read at (slice_index words at) ∙ whole; same = agree };
        }

    loads_word : (read : List ℕ) (at : ℕ) → at < 3 * n → slate_stage shape lock turn n read at ≡ Logging (LoadSlate lock turn n read at)
    loads_word read at below =
        let P : Bool → Type 0 = λ b. (if b then script_stage shape lock turn (script_from_words n read) else Logging (LoadSlate lock turn n read at)) ≡ Logging (LoadSlate lock turn n read at) in
        subst P (sym (ne_eqb at (3 * n) (λ e. omega (arith, e, below)))) refl

    pub word_goes : (at : ℕ) (p : Private) → at < 3 * n → ReadsSlate turn n words at p → Goes shape p (slice_index words at) Quiet (ReadsSlate turn n words (at + 1))
    word_goes at p below reads =
        let P : Private → Type 0 = λ q. Goes shape q (slice_index words at) Quiet (ReadsSlate turn n words (at + 1)) in
        subst P (sym (reads.here ∙ ap (λ (s : Stage). private_at_stage worker begun s) (loads_word reads.read at below))) (word_goes_at reads.read at below reads.long reads.same)

    pub word_step : (at : ℕ) (p : Private) → at < 3 * n → ReadsSlate turn n words at p
        → Steps shape p (flat_expecting_load (word_number shape (SlateWord worker (at / 3) (at % 3))) (slice_index words at)) Quiet (ReadsSlate turn n words (at + 1))
    word_step at p below reads =
        let action : FlatAction = flat_expecting_load (word_number shape (SlateWord worker (at / 3) (at % 3))) (slice_index words at) in
        let P : Private → Type 0 = λ q. Steps shape q action Quiet (ReadsSlate turn n words (at + 1)) in
        let V : ℕ → Type 0 = λ v. Goes shape (private_at_stage worker begun (Logging (LoadSlate lock turn n reads.read at))) v Quiet (ReadsSlate turn n words (at + 1)) in
        subst P (sym (reads.here ∙ ap (λ (s : Stage). private_at_stage worker begun s) (loads_word reads.read at below))) record {
          busy = λ e. cc;
          does = (inr (inl refl), refl);
          goes = λ value goes. subst V (sym (goes.expected refl)) (word_goes_at reads.read at below reads.long reads.same);
        }

    pub slate_known : (at : ℕ) (p : Private) → at ≡ 3 * n → ReadsSlate turn n words at p → p ≡ private_at_stage worker begun (script_stage shape lock turn (Some script))
    slate_known at p whole reads =
        let P : Bool → Type 0 = λ b. private_at_stage worker begun (if b then script_stage shape lock turn (script_from_words n reads.read) else Logging (LoadSlate lock turn n reads.read at)) ≡ private_at_stage worker begun (script_stage shape lock turn (Some script)) in
        let Q : ℕ → Type 0 = λ k. take k reads.read ≡ take k words in
        reads.here ∙ subst P (sym (eq-eqb at (3 * n) whole)) (ap (λ (s : Option Program). private_at_stage worker begun (script_stage shape lock turn s)) (read_script reads.read (subst Q whole reads.same)))

  -- At some turn.
  pub record ReadsAtTurn (n : ℕ) (words : List ℕ) (at : ℕ) (p : Private) : Type 0 where
    pub turn : ℕ
    pub reads : ReadsSlate turn n words at p

  pub length_step : (n : ℕ) (words : List ℕ) → n ≤ 8 → (p : Private) → KnowsTurn p → Steps shape p (flat_expecting_load (word_number shape (SlateLen worker)) n) Quiet (ReadsAtTurn n words 0)
  length_step n words few p knows =
      let P : Private → Type 0 = λ q. Steps shape q (flat_expecting_load (word_number shape (SlateLen worker)) n) Quiet (ReadsAtTurn n words 0) in
      let V : ℕ → Type 0 = λ v. Goes shape (private_at_stage worker begun (Logging (LoadLen lock knows.turn))) v Quiet (ReadsAtTurn n words 0) in
      let it = length_goes knows.turn n words few in
      subst P (sym knows.here) record {
        busy = λ e. cc;
        does = (inr (inl refl), refl);
        goes = λ value goes. subst V (sym (goes.expected refl)) record { takes = it.takes; says = it.says; next = record { turn = knows.turn; reads = it.next } };
      }

  -- ---- the cells

  module _ (turn : ℕ) (script : Program) (named : ℕ) where
    pub cell_goes : (row : List ℕ) (from cell value : ℕ) → first_cell named from shape.cells ≡ Some cell
        → Goes shape (private_at_stage worker begun (cell_stage_from shape (logging_section lock turn script named) row (first_cell named from shape.cells))) value
        Quiet (λ p. p ≡ private_at_stage worker begun (cell_stage_from shape (logging_section lock turn script named) (slice_set row cell value) (first_cell named (cell + 1) shape.cells)))
    cell_goes row from cell value is =
        let P : Option ℕ → Type 0 = λ o. Goes shape (private_at_stage worker begun (cell_stage_from shape (logging_section lock turn script named) row o)) value
        Quiet (λ p. p ≡ private_at_stage worker begun (cell_stage_from shape (logging_section lock turn script named) (slice_set row cell value) (first_cell named (cell + 1) shape.cells))) in
        subst P (sym is) record { takes = tt; says = refl; next = refl }

    pub cells_known : (row : List ℕ) (from : ℕ) → first_cell named from shape.cells ≡ None
        → private_at_stage worker begun (cell_stage_from shape (logging_section lock turn script named) row (first_cell named from shape.cells)) ≡ private_at_stage worker begun (run_stage shape (logging_section lock turn script named) row)
    cells_known row from is = ap (λ (o : Option ℕ). private_at_stage worker begun (cell_stage_from shape (logging_section lock turn script named) row o)) is

  pub loads_cells : (turn named cell : ℕ) (script : Program) (p : Private) → named ≡ mask_of script.ops → first_cell named 0 shape.cells ≡ Some cell
      → p ≡ private_at_stage worker begun (script_stage shape lock turn (Some script)) → IsLoadingCells lock named cell p
  loads_cells turn named cell script p is first here =
      let P : ℕ → Type 0 = λ m. first_cell m 0 shape.cells ≡ Some cell in
      let from : first_cell (mask_of script.ops) 0 shape.cells ≡ Some cell = subst P is first in
      record {
        turn = turn;
        script = script;
        row = replicate shape.cells 0;
        here = ap (λ (q : Private). q.stage) here ∙ ap (λ (o : Option ℕ). cell_stage_from shape (logging_section lock turn script (mask_of script.ops)) (replicate shape.cells 0) o) from
            ∙ ap (λ (m : ℕ). Logging (LoadCells lock turn script m (replicate shape.cells 0) cell)) (sym is);
      }

-- Whoever is about to load a cell, at whatever turn.
module _ (shape : Shape) (lock named cell : ℕ) (p : Private) (loads : IsLoadingCells lock named cell p) where
  abbrev loading : Private
  loading = record { worker = p.worker; begun = p.begun; stage = Logging (LoadCells lock loads.turn loads.script named loads.row cell) }

  is_loading : p ≡ loading
  is_loading = ap (λ (s : Stage). let q : Private = record { worker = p.worker; begun = p.begun; stage = s } in q) loads.here

  pub cell_step : (next : ℕ) → first_cell named (cell + 1) shape.cells ≡ Some next → Steps shape p (flat_load (word_number shape (Cell lock cell))) Quiet (IsLoadingCells lock named next)
  cell_step next is =
      let P : Private → Type 0 = λ q. Steps shape q (flat_load (word_number shape (Cell lock cell))) Quiet (IsLoadingCells lock named next) in
      subst P (sym is_loading) record {
        busy = λ e. cc;
        does = (inl refl, refl);
        goes = λ value goes. record {
          takes = tt;
          says = refl;
          next = record {
            turn = loads.turn;
            script = loads.script;
            row = slice_set loads.row cell value;
            here = ap (λ (o : Option ℕ). cell_stage_from shape (logging_section lock loads.turn loads.script named) (slice_set loads.row cell value) o) is;
          };
        };
      }

-- Whoever is about to load a word of a slate, whatever the words before it are.
module _ (shape : Shape) (worker n at : ℕ) (p : Private) (loads : IsLoadingSlate worker n at p) where
  abbrev reading : Private
  reading = record { worker = worker; begun = p.begun; stage = Logging (LoadSlate loads.lock loads.turn n loads.words at) }

  is_reading : p ≡ reading
  is_reading =
      ap (λ (s : Stage). let q : Private = record { worker = p.worker; begun = p.begun; stage = s } in q) loads.here
      ∙ ap (λ (w : ℕ). let q : Private = record { worker = w; begun = p.begun; stage = Logging (LoadSlate loads.lock loads.turn n loads.words at) } in q) loads.own

  pub slate_step : at + 1 < 3 * n → Steps shape p (flat_load (word_number shape (SlateWord worker (at / 3) (at % 3)))) Quiet (IsLoadingSlate worker n (at + 1))
  slate_step below =
      let P : Private → Type 0 = λ q. Steps shape q (flat_load (word_number shape (SlateWord worker (at / 3) (at % 3)))) Quiet (IsLoadingSlate worker n (at + 1)) in
      subst P (sym is_reading) record {
        busy = λ e. cc;
        does = (inl refl, refl);
        goes = λ value goes.
            let more : List ℕ = slice_set loads.words at value in
            let B : Bool → Type 0 = λ b. (if b then script_stage shape loads.lock loads.turn (script_from_words n more) else Logging (LoadSlate loads.lock loads.turn n more (at + 1))) ≡ Logging (LoadSlate loads.lock loads.turn n more (at + 1)) in
            record {
              takes = λ last. let never : ⊥ = omega (arith, last, below) in absurd never;
              says = refl;
              next = record { lock = loads.lock; turn = loads.turn; words = more; here = subst B (sym (ne_eqb (at + 1) (3 * n) (λ e. omega (arith, below, e)))) refl; own = refl };
            };
      }

-- ---- a guess

pub nothing_guessed : (shape : Shape) (script : Program) → script ≡ record { n = 0; ops = [] } → IsExpectedSlate shape record { script = script; words = replicate 24 0; named = 0 }
unfolding mask_of
nothing_guessed shape script is =
    let empty : Program = record { n = 0; ops = [] } in
    let P : Program → Type 0 = λ p. IsExpectedSlate shape record { script = p; words = replicate 24 0; named = 0 } in
    subst P (sym is) record {
      script = record { few = omega arith; counted = refl; within = All-nil (OpIsWithin shape.cells) };
      checked = refl;
      slate = record { counted = refl; script = record { few = omega arith; counted = refl; within = All-nil (OpIsWithin (2 ^ 32)) }; first = refl };
      named = refl;
    }

-- ---- the loops

pub record TellsSection (shape : Shape) (until worker lock n : ℕ) (words : List ℕ) (at : ℕ) (before batch : Batch) : Type 0 where
  pub reaches : (start : Private) (begun : ℕ) → PredictsUpTo shape until start (batch_actions before) (private_at_stage worker begun (Logging (LoadTurn lock))) → PredictsUpToSome shape until start (batch_actions batch) (ReadsAtTurn shape worker begun lock n words at)
  pub count : batch.count ≡ before.count + (at + 2)

pub record TellsSlate (shape : Shape) (until worker n loaded at : ℕ) (batch : Batch) : Type 0 where
  pub reaches : (private : Private) → IsLoadingSlate worker n loaded private → PredictsUpToSome shape until private (batch_actions batch) (IsLoadingSlate worker n at)
  pub count : batch.count + loaded ≡ at
  pub below : at < 3 * n

pub record TellsCells (shape : Shape) (until lock named cell at : ℕ) (before batch : Batch) : Type 0 where
  pub reaches : (private : Private) → PredictsUpToSome shape until private (batch_actions before) (IsLoadingCells lock named cell) → PredictsUpToSome shape until private (batch_actions batch) (IsLoadingCells lock named at)
  pub few : batch.count ≤ before.count + at
  pub below : at < shape.cells
