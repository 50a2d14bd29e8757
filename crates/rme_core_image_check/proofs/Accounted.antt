-- The condition on a worker by its last entry is the invariant's.
use Rattle.std.proofs.Common.{◌≡◌, ◌≢◌, ℕ, ◌<◌, List, refl, sym, ◌∙◌, ap, subst, arith}
use Rattle.std.specs.Prelude.{true, false, Option, Some, None}
use Rattle.std.proofs.lemmas.Bool.{ltb-false}
use Rattle.rme_words.specs.declared.shape.Shape.{Shape}
use Rattle.rme_program.specs.declared.note.Entry.{Entry}
use Rattle.rme_machine.specs.Histories.{last_entry_of_worker, numbers_of_worker, NumbersRise}
use Rattle.rme_machine.specs.Views.{WorkerWords, is_pending}
use Rattle.rme_machine.specs.Invariant.{WorkerInvariant, IsLastReceiptWords, IsWithdrawnNumber}
use Rattle.rme_machine.proofs.Historical.{rises_wider}
use Rattle.rme_core_image_check.specs.LastEntryLists.{last_number, EntryNumbersRise}
use Rattle.rme_core_image_check.specs.Workers.{WorkerIsValid, IsReceiptOfLastEntry, IsWithdrawnReceipt}
use Rattle.rme_core_image_check.proofs.Rising.{last_most, last_there, none_above, do_rise}

module _ (s : Shape) (own : WorkerWords) (held : ℕ → ℕ) (es : List Entry) (w : ℕ) where
  -- From the invariant's account.
  module _ (account : WorkerInvariant s own held es w) where
    no_last : is_pending own ≡ false → 0 < own.begun → IsWithdrawnNumber s own es w → last_number (last_entry_of_worker es w) ≢ own.done
    no_last past some is same = go (last_entry_of_worker es w) refl
      where
        go : (last : Option Entry) → last_entry_of_worker es w ≡ last → ⊥
        go None found =
            let zero : last_number (last_entry_of_worker es w) ≡ 0 = ap last_number found in
            let few = ltb-false own.done own.begun past in
            omega (arith, zero, few, some, same)
        go (Some e) found =
            let under : e.receipt.number ≡ own.done = ap last_number (sym found) ∙ same in
            let clash : true ≡ false = sym (last_there es e w own.done found under) ∙ is.no_entry in
            absurd (cc)

    pub accounted : WorkerIsValid s own held (last_entry_of_worker es w)
    accounted = record {
      numbers = record { done = account.done; begun = account.begun; few = account.few };
      stakes = account.stake;
      pending = account.slate;
      receipt = record {
        numbered = last_most es w 0 own.done account.numbered;
        withdrawn = λ past some gone.
            let is : IsWithdrawnNumber s own es w = account.withdrawn past some gone in
            record { no_entry = no_last past some is; reply = is.reply; at = is.at };
        receipt = λ past some there.
            let is : IsLastReceiptWords own es w = account.receipt past some there in
            subst (λ (last : Option Entry). IsReceiptOfLastEntry own last) (sym is.found) record { number = is.number; reply = is.reply; place = is.place; at = is.at };
        blank = λ zero. let is = account.blank zero in record { reply = is.0; place = is.1; at = is.2 };
      };
    }

  -- The converse.
  module _ (rise : EntryNumbersRise s es) (is : WorkerIsValid s own held (last_entry_of_worker es w)) where
    rises : NumbersRise 0 (last_number (last_entry_of_worker es w)) (numbers_of_worker es w)
    rises = do_rise s es rise w

    receipt_of : (last : Option Entry) → last_entry_of_worker es w ≡ last → IsReceiptOfLastEntry own last → IsLastReceiptWords own es w
    receipt_of None found agrees = absurd agrees
    receipt_of (Some e) found agrees = record { last = e; found = found; number = agrees.number; reply = agrees.reply; place = agrees.place; at = agrees.at }

    pub account_told : WorkerInvariant s own held es w
    account_told = record {
      done = is.numbers.done;
      begun = is.numbers.begun;
      few = is.numbers.few;
      stake = is.stakes;
      slate = is.pending;
      numbered = rises_wider 0 (last_number (last_entry_of_worker es w)) own.done (numbers_of_worker es w) is.receipt.numbered rises;
      withdrawn = λ past some gone.
          let given : IsWithdrawnReceipt s own (last_entry_of_worker es w) = is.receipt.withdrawn past some gone in
          let numbered = is.receipt.numbered in
          let apart = given.no_entry in
          record { no_entry = none_above es w 0 (last_number (last_entry_of_worker es w)) own.done (omega (arith, numbered, apart)) rises; reply = given.reply; at = given.at };
      receipt = λ past some there. receipt_of (last_entry_of_worker es w) refl (is.receipt.receipt past some there);
      blank = λ zero. let blank = is.receipt.blank zero in (blank.reply, blank.place, blank.at);
    }
