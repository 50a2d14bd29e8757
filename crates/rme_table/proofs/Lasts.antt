-- The last receipt, from the word Place that was read.
use Rattle.std.proofs.Common.{◌≡◌, ◌≢◌, ℕ, refl, ◌∙◌, ap, subst}
use Rattle.std.specs.Prelude.{Option, None}
use Rattle.std.proofs.lemmas.Bool.{eq-eqb, ne_eqb}
use Rattle.rme_words.specs.declared.address.Address.TheVariants.{Place}
use Rattle.rme_program.specs.declared.note.Receipt.{Receipt}
use Rattle.rme_program.specs.Steps.{withdrawn_place}
use Rattle.rme_service_steps.specs.Steps.{PartReadsWord}
use Rattle.rme_service_steps.specs.SeatViews.{ServiceId, SeatView}
use Rattle.rme_table.specs.Calls.{LastReceiptContract, last_receipt}

module _ {i x : SeatView} {held own : ServiceId} (same : i ≡ x) (service : held ≡ own) (place : ℕ) (sees : PartReadsWord held.shape i.part (Place i.part.worker) place) where
  seen : PartReadsWord own.shape x.part (Place x.part.worker) place
  seen =
      let P : SeatView → Type 0 = λ (y : SeatView). PartReadsWord held.shape y.part (Place y.part.worker) place in
      let Q : ServiceId → Type 0 = λ (y : ServiceId). PartReadsWord y.shape x.part (Place x.part.worker) place in
      subst Q service (subst P same sees)

  pub last_withdrawn : place ≡ withdrawn_place → LastReceiptContract own.shape x.part None
  last_withdrawn is = record { place = place; sees = seen; receipt_is = rw (eq-eqb place withdrawn_place is) refl }

  pub last_is : (receipt : Option Receipt) → place ≢ withdrawn_place → receipt ≡ last_receipt i.part.entries → LastReceiptContract own.shape x.part receipt
  last_is receipt other is = record {
    place = place;
    sees = seen;
    receipt_is = rw (ne_eqb place withdrawn_place other) (is ∙ ap (λ (y : SeatView). last_receipt y.part.entries) same);
  }
