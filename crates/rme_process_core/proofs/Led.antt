-- Values taken one after another, that lead from one private state to another.
use Rattle.std.proofs.Common.{◌≡◌, ℕ, ◌+◌, ◌<◌, ◌≤◌, List, [], ◌∷◌, ◌++◌, length, take, drop, length-take-le, take-add, refl, sym, ap, subst, ◌∙◌, arith}
use Rattle.std.specs.Prelude.{slice_index, ◌==◌, false}
use Rattle.std.proofs.Common.{append-nil, append_assoc}
use Rattle.std.proofs.lemmas.List.{take_more, take_all, length-append, map-append}
use Rattle.rme_words.specs.declared.shape.Shape.{Shape}
use Rattle.rme_program.specs.declared.note.Note.{Note}
use Rattle.rme_program.specs.declared.note.Note.TheVariants.{Quiet, Asked, Blocked, Entered, Reentered, Finished, Left, Ready, Withdrew}
use Rattle.rme_program.specs.declared.private.Private.{Private}
use Rattle.rme_program.specs.Conditions.{IsPrivate}
use Rattle.rme_program.specs.Steps.{private_after, note_after}
use Rattle.rme_process_core.specs.Folds.{ValuesAccepted, private_after_values, notes_of_values, prepend_note, flat_notes, outcome_notes}
use Rattle.rme_process_core.specs.declared.flat.FlatNote.{FlatNote}
use Rattle.rme_process_core.specs.declared.flat.BatchOutcome.{BatchOutcome}
use Rattle.rme_process_core.specs.Flat.{flat_note}
use Rattle.rme_script.specs.Programs.{Program}
use Rattle.rme_program.specs.Masks.{first_cell}
use Rattle.rme_program.specs.declared.stage.Stage.TheVariants.{Logging, Copying}
use Rattle.rme_program.specs.declared.stage.Log.TheVariants.{StoreShadows}
use Rattle.rme_program.specs.declared.stage.Redo.TheVariants.{LoadMask}
use Rattle.rme_program.specs.declared.stage.Visit.{Visit}
use Rattle.rme_program.specs.Steps.{shadow_stage_from, copy_stage_from, cell_stage_from, logging_section}
use Rattle.rme_process_core.specs.Runs.{QuietStepsLeadTo, ValuesLeadTo, NotesWritten, FastForward, OneValueTaken, SomeValuesTaken, noted, private_at_stage}
use Rattle.rme_process_core.proofs.Telling.{Goes}

pub led_append : (shape : Shape) (start : Private) (values more : List ℕ) → private_after_values shape start (values ++ more) ≡ private_after_values shape (private_after_values shape start values) more
unfolding private_after_values
led_append shape start [] more = refl
led_append shape start (value ∷ rest) more = led_append shape (private_after shape start value) rest more

pub taken_append : (shape : Shape) (start : Private) (values more : List ℕ) → ValuesAccepted shape start values → ValuesAccepted shape (private_after_values shape start values) more → ValuesAccepted shape start (values ++ more)
unfolding private_after_values
taken_append shape start [] more all others = others
taken_append shape start (value ∷ rest) more all others = (all.0, taken_append shape (private_after shape start value) rest more all.1 others)

pub noted_append : (note : Note) (rest more : List Note) → prepend_note note rest ++ more ≡ prepend_note note (rest ++ more)
noted_append Quiet rest more = refl
noted_append (Asked number) rest more = refl
noted_append Blocked rest more = refl
noted_append (Entered lock) rest more = refl
noted_append (Reentered lock) rest more = refl
noted_append (Finished receipt) rest more = refl
noted_append (Left lock) rest more = refl
noted_append Ready rest more = refl
noted_append (Withdrew number) rest more = refl

pub said_append : (shape : Shape) (start : Private) (values more : List ℕ) → notes_of_values shape start (values ++ more) ≡ notes_of_values shape start values ++ notes_of_values shape (private_after_values shape start values) more
unfolding private_after_values notes_of_values
said_append shape start [] more = refl
said_append shape start (value ∷ rest) more =
    let next : Private = private_after shape start value in
    ap (λ (l : List Note). prepend_note (note_after shape start value) l) (said_append shape next rest more) ∙ sym (noted_append (note_after shape start value) (notes_of_values shape next rest) (notes_of_values shape (private_after_values shape next rest) more))

takes_this_from : (shape : Shape) (start : Private) (value : ℕ) (note : Note) (next : Private) → Goes shape start value note (λ p. p ≡ next) → ValuesLeadTo shape start (value ∷ []) (prepend_note note []) next
unfolding private_after_values notes_of_values
takes_this_from shape start value note next goes = record { all = (goes.takes, tt); leads = sym goes.next; says = ap (λ (n : Note). prepend_note n []) (sym goes.says) }

module _ (shape : Shape) (start : Private) where
  pub takes_none : ValuesLeadTo shape start [] [] start
  unfolding private_after_values notes_of_values
  takes_none = record { all = tt; leads = refl; says = refl }

  pub takes_append : (values more : List ℕ) (notes others : List Note) (mid next : Private) → ValuesLeadTo shape start values notes mid → ValuesLeadTo shape mid more others next → ValuesLeadTo shape start (values ++ more) (notes ++ others) next
  takes_append values more notes others mid next so then_so =
      let A : Private → Type 0 = λ p. ValuesAccepted shape p more in
      record {
        all = taken_append shape start values more so.all (subst A so.leads then_so.all);
        leads = then_so.leads ∙ ap (λ (p : Private). private_after_values shape p more) so.leads ∙ sym (led_append shape start values more);
        says = ap (λ (l : List Note). l ++ others) so.says ∙ ap (λ (l : List Note). notes_of_values shape start values ++ l) (then_so.says ∙ ap (λ (p : Private). notes_of_values shape p more) so.leads) ∙ sym (said_append shape start values more);
      }

  module _ (values : List ℕ) (i : ℕ) (notes : List Note) (mid next : Private) (so : ValuesLeadTo shape start (take i values) notes mid) where
    pub takes_run : (count : ℕ) (others : List Note) → ValuesLeadTo shape mid (take count (drop i values)) others next → ValuesLeadTo shape start (take (i + count) values) (notes ++ others) next
    takes_run count others run =
        let P : List ℕ → Type 0 = λ vs. ValuesLeadTo shape start vs (notes ++ others) next in
        subst P (sym (take-add i count values)) (takes_append (take i values) (take count (drop i values)) notes others mid next so run)

    pub takes_noted : i < length values → (note : Note) → Goes shape mid (slice_index values i) note (λ p. p ≡ next) → ValuesLeadTo shape start (take (i + 1) values) (notes ++ prepend_note note []) next
    takes_noted within note goes =
        let P : List ℕ → Type 0 = λ vs. ValuesLeadTo shape start vs (notes ++ prepend_note note []) next in
        subst P (sym (take_more values i 0 within)) (takes_append (take i values) (slice_index values i ∷ []) notes (prepend_note note []) mid next so (takes_this_from shape mid (slice_index values i) note next goes))

  pub takes_there : (values : List ℕ) (notes : List Note) (mid next : Private) → mid ≡ next → ValuesLeadTo shape start values notes mid → ValuesLeadTo shape start values notes next
  takes_there values notes mid next is so = let P : Private → Type 0 = λ p. ValuesLeadTo shape start values notes p in subst P is so

module _ (shape : Shape) (start : Private) where
  -- One more step that says nothing.
  pub takes_one : (values : List ℕ) (i : ℕ) (mid next : Private) → ValuesLeadTo shape start (take i values) [] mid → i < length values → Goes shape mid (slice_index values i) Quiet (λ p. p ≡ next) → ValuesLeadTo shape start (take (i + 1) values) [] next
  takes_one values i mid next so within goes = takes_noted shape start values i [] mid next so within Quiet goes

  -- ---- whatever is found

  pub blind_none : QuietStepsLeadTo shape start 0 start
  blind_none [] long = takes_none shape start
  blind_none (v ∷ rest) long = let never : ⊥ = omega (arith, long) in absurd never

  pub blind_more : (count : ℕ) (mid next : Private) → QuietStepsLeadTo shape start count mid → ((value : ℕ) → Goes shape mid value Quiet (λ p. p ≡ next)) → QuietStepsLeadTo shape start (count + 1) next
  blind_more count mid next so goes values long =
      let few : count ≤ length values = omega (arith, long) in
      let P : List ℕ → Type 0 = λ vs. ValuesLeadTo shape start vs [] next in
      subst P (take_all (count + 1) values (omega (arith, long)))
      (takes_one values count mid next (so (take count values) (length-take-le count values few)) (omega (arith, long)) (goes (slice_index values count)))

  pub blind_there : (count : ℕ) (mid next : Private) → mid ≡ next → QuietStepsLeadTo shape start count mid → QuietStepsLeadTo shape start count next
  blind_there count mid next is so = let P : Private → Type 0 = λ p. QuietStepsLeadTo shape start count p in subst P is so

  pub blind_taken : (values : List ℕ) (count : ℕ) (next : Private) → count ≤ length values → QuietStepsLeadTo shape start count next → ValuesLeadTo shape start (take count values) [] next
  blind_taken values count next within so = so (take count values) (length-take-le count values within)

-- ---- jumps

pub writes_none : (outcome : BatchOutcome) → NotesWritten outcome [] outcome
writes_none outcome = record { told = sym (append-nil (outcome_notes outcome)); count = omega arith }

pub writes_one : (before after : BatchOutcome) (flat : FlatNote) (note : Note) → flat ≡ flat_note note → outcome_notes after ≡ outcome_notes before ++ flat ∷ [] → after.count ≡ before.count + 1 → NotesWritten before (note ∷ []) after
writes_one before after flat note is told count = record { told = told ∙ ap (λ (n : FlatNote). outcome_notes before ++ n ∷ []) is; count = count }

pub writes_then : (before mid after : BatchOutcome) (notes more : List Note) → NotesWritten before notes mid → NotesWritten mid more after → NotesWritten before (notes ++ more) after
writes_then before mid after notes more so then_so = record {
  told = then_so.told ∙ ap (λ (l : List FlatNote). l ++ flat_notes more) so.told ∙ append_assoc (outcome_notes before) (flat_notes notes) (flat_notes more)
      ∙ ap (λ (l : List FlatNote). outcome_notes before ++ l) (sym (map-append flat_note notes more));
  count = omega (arith, so.count, then_so.count, length-append notes more);
}

-- Nothing was taken.
pub jumps_none : (shape : Shape) (private : Private) (values : List ℕ) (outcome : BatchOutcome) → IsPrivate shape private → FastForward shape (noted private outcome) values 0 (noted private outcome)
jumps_none shape private values outcome is = record { within = omega arith; notes = []; takes = takes_none shape private; few = omega arith; writes = writes_none outcome; private = is }

nothing_said : (notes : List Note) → length notes ≤ 0 → notes ≡ []
nothing_said [] few = refl
nothing_said (note ∷ rest) few = let never : ⊥ = omega (arith, few) in absurd never

module _ (shape : Shape) (private new : Private) (values : List ℕ) (count : ℕ) (before after : BatchOutcome) (none : count ≡ 0) (so : FastForward shape (noted private before) values count (noted new after)) where
  pub not_jumped : new ≡ private
  unfolding private_after_values
  not_jumped =
      let P : ℕ → Type 0 = λ k. ValuesLeadTo shape private (take k values) so.notes new in
      let nothing : ValuesLeadTo shape private [] so.notes new = subst P none so.takes in
      nothing.leads

  pub not_said : NotesWritten before [] after
  not_said = let P : List Note → Type 0 = λ l. NotesWritten before l after in subst P (nothing_said so.notes (omega (arith, so.few, none))) so.writes

-- What is said of a step is all that is written, where nothing was written before it.
pub writes_before : (shape : Shape) (old : Private) (value : ℕ) (before mid : BatchOutcome) (new : Private) (after : BatchOutcome) → NotesWritten before [] mid → OneValueTaken shape (noted old mid) value (noted new after) → OneValueTaken shape (noted old before) value (noted new after)
writes_before shape old value before mid new after quiet one =
    record { takes = one.takes; leads = one.leads; writes = writes_then before mid after [] (prepend_note (note_after shape old value) []) quiet one.writes }

-- One note at most is said of a step.
pub one_note : (note : Note) (rest : List Note) → length (prepend_note note rest) ≤ length rest + 1
one_note Quiet rest = omega arith
one_note (Asked number) rest = omega arith
one_note Blocked rest = omega arith
one_note (Entered lock) rest = omega arith
one_note (Reentered lock) rest = omega arith
one_note (Finished receipt) rest = omega arith
one_note (Left lock) rest = omega arith
one_note Ready rest = omega arith
one_note (Withdrew number) rest = omega arith

pub took_one : (shape : Shape) (private : Private) (values : List ℕ) (new : Private) (before after : BatchOutcome) → 1 ≤ length values → OneValueTaken shape (noted private before) (slice_index values 0) (noted new after) → IsPrivate shape new
    → SomeValuesTaken shape (noted private before) values 1 (noted new after)
took_one shape private [] new before after some one private_is = let never : ⊥ = omega (arith, some) in absurd never
took_one shape private (v ∷ rest) new before after some one private_is =
    let note : Note = note_after shape private v in
    record {
      some = omega arith;
      jumps = record {
        within = some;
        notes = prepend_note note [];
        takes = takes_this_from shape private v note new record { takes = one.takes; says = refl; next = sym one.leads };
        few = one_note note [];
        writes = one.writes;
        private = private_is;
      };
    }

pub not_empty : (values : List ℕ) → false ≡ (length values == 0) → 1 ≤ length values
not_empty [] not = cc
not_empty (v ∷ rest) not = omega arith

-- ---- the loops

pub record CountsShadows (shape : Shape) (named cell at count : ℕ) : Type 0 where
  pub blind : (worker begun : ℕ) (visit : Visit) (row : List ℕ) (reply : ℕ) → QuietStepsLeadTo shape (private_at_stage worker begun (Logging (StoreShadows visit named row reply cell))) count
      (private_at_stage worker begun (shadow_stage_from visit named row reply (first_cell named (at + 1) shape.cells)))
  pub few : count ≤ at + 1
  pub below : at < shape.cells

pub record FindsCopies (shape : Shape) (named from : ℕ) (values : List ℕ) (count : ℕ) : Type 0 where
  pub takes : (worker begun : ℕ) (visit : Visit) → ValuesLeadTo shape (private_at_stage worker begun (Copying (LoadMask visit))) (take count values) [] (private_at_stage worker begun (copy_stage_from visit named (first_cell named from shape.cells)))
  pub within : count ≤ length values
  pub from_within : from ≤ shape.cells

pub record ReadsCells (shape : Shape) (named from : ℕ) (before : List ℕ) (values : List ℕ) (count : ℕ) (row : List ℕ) : Type 0 where
  pub takes : (worker begun lock turn : ℕ) (script : Program) → ValuesLeadTo shape (private_at_stage worker begun (cell_stage_from shape (logging_section lock turn script named) before (first_cell named 0 shape.cells))) (take count values) []
      (private_at_stage worker begun (cell_stage_from shape (logging_section lock turn script named) row (first_cell named from shape.cells)))
  pub within : count ≤ length values
  pub from_within : from ≤ shape.cells
  pub whole : length row ≡ shape.cells
