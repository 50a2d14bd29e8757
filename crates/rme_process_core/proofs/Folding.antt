-- Some more values after others.
use Rattle.std.proofs.Common.{◌≡◌, ℕ, ◌+◌, ◌-◌, ◌≤◌, List, ◌++◌, length, take, drop, sym, ap, ◌∙◌, arith}
use Rattle.std.proofs.lemmas.List.{length-drop}
use Rattle.std.proofs.lemmas.List.{map-append}
use Rattle.rme_words.specs.declared.shape.Shape.{Shape}
use Rattle.rme_program.specs.declared.note.Note.{Note}
use Rattle.rme_program.specs.declared.private.Private.{Private}
use Rattle.rme_program.specs.Conditions.{IsPrivate}
use Rattle.rme_process_core.specs.declared.flat.FlatNote.{FlatNote}
use Rattle.rme_process_core.specs.declared.flat.BatchOutcome.{BatchOutcome}
use Rattle.rme_process_core.specs.Flat.{flat_note}
use Rattle.rme_process_core.specs.Folds.{flat_notes, outcome_notes}
use Rattle.rme_process_core.specs.Runs.{ValuesLeadTo, SomeValuesTaken, noted}
use Rattle.rme_process_core.proofs.Led.{takes_run}

-- What a worker that took the first values knows, and what it said.
pub record HasTaken (shape : Shape) (start now : Private) (outcome : BatchOutcome) (values : List ℕ) (i : ℕ) : Type 0 where
  pub within : i ≤ length values
  pub private : IsPrivate shape now
  pub notes : List Note
  pub takes : ValuesLeadTo shape start (take i values) notes now
  pub told : outcome_notes outcome ≡ flat_notes notes
  pub few : outcome.count ≤ i

module _ (shape : Shape) (start now : Private) (outcome : BatchOutcome) (values : List ℕ) (i : ℕ) (so : HasTaken shape start now outcome values i) where
  -- Some more values are taken.
  pub takes_some : (count : ℕ) (new : Private) (more : BatchOutcome) → SomeValuesTaken shape (noted now outcome) (drop i values) count (noted new more) → HasTaken shape start new more values (i + count)
  takes_some count new more took =
      let jumps = took.jumps in
      let enough : count ≤ length values - i = rw (sym (length-drop i values)) jumps.within in
      record {
        within = omega (arith, so.within, enough);
        private = jumps.private;
        notes = so.notes ++ jumps.notes;
        takes = takes_run shape start values i so.notes now new so.takes count jumps.notes jumps.takes;
        told = jumps.writes.told ∙ ap (λ (l : List FlatNote). l ++ flat_notes jumps.notes) so.told ∙ sym (map-append flat_note so.notes jumps.notes);
        few = omega (arith, so.few, jumps.few, jumps.writes.count);
      }
