-- The last entry of an owner whose job is done.
use Rattle.std.proofs.Common.{◌≡◌, ℕ, ◌<◌, sym, ◌∙◌, ap, inl, inr}
use Rattle.std.specs.Prelude.{Bool, true, false, List, ◌∷◌, Some}
use Rattle.std.specs.List.{list_any}
use Rattle.std.proofs.lemmas.Bool.{cases_eq, eq-eqb, or_left, or_right}
use Rattle.std.proofs.lemmas.List.Folds.{list_any-append}
use Rattle.rme_words.specs.declared.shape.Shape.{Shape}
use Rattle.rme_words.specs.declared.address.Address.{Address}
use Rattle.rme_tree.specs.Nodes.{held_levels_in}
use Rattle.rme_program.specs.declared.note.Entry.{Entry}
use Rattle.rme_program.specs.Steps.{withdrawn_place}
use Rattle.rme_machine.specs.Histories.{last_entry_passing, last_entry_of_worker, has_entry}
use Rattle.rme_machine.specs.Views.{worker_words, lock_words, is_pending}
use Rattle.rme_machine.specs.AbstractState.{Privates}
use Rattle.rme_machine.specs.Invariant.{Invariant, WorkerInvariant, IsOwnersLastEntry, IsLastReceiptWords, IsWithdrawnNumber, OwnedLockInvariant}
use Rattle.rme_machine.proofs.Kept.{owner_of}
use Rattle.rme_machine.proofs.Lasts.{IsLast, last_stands}

-- An entry that the search finds is an entry of the history.
found_in : (test other : Entry → Bool) (es : List Entry) (e : Entry) → last_entry_passing test es ≡ Some e → other e ≡ true → list_any other es ≡ true
found_in test other es e found passes =
    let its : IsLast test es e = last_stands test es e found in
    ap (list_any other) its.stands ∙ list_any-append other its.before (e ∷ its.after)
    ∙ or_right (list_any other its.before) (list_any other (e ∷ its.after)) (or_left (other e) (list_any other its.after) passes)

-- The last entry of an owner whose job is done: it has the owner's receipt, of that lock.
pub record IsEnded (history : List Entry) (worker lock : ℕ) : Type 0 where
  pub last : Entry
  pub found : last_entry_of_worker history worker ≡ Some last
  pub at : last.receipt.lock ≡ lock

pub ended : (s : Shape) (mem : Address → ℕ) (privs : Privates) (es : List Entry) (w l : ℕ) → Invariant s mem privs es → w < s.workers → l < s.locks
    → held_levels_in s mem w l ≡ s.height → is_pending (worker_words mem w) ≡ false → 0 < (worker_words mem w).begun → (worker_words mem w).at ≡ l
    → IsEnded es w l
ended s mem privs es w l fact worker lock holds past some site =
    let account : WorkerInvariant s (worker_words mem w) (held_levels_in s mem w) es w = fact.accounts w worker in
    let stands : OwnedLockInvariant s (lock_words s mem l) es l record { worker = w; words = worker_words mem w } false =
    rw past at (rw (owner_of s mem l w worker holds) at (fact.stands l lock)) in
    elim (cases_eq (worker_words mem w).place withdrawn_place) [
      | inl gone ↦
          (let none : IsWithdrawnNumber s (worker_words mem w) es w = account.withdrawn past some gone in
          let own : (last : Entry) × IsOwnersLastEntry es l w (worker_words mem w).done last = (stands.0, stands.1) in
          let there : has_entry es w (worker_words mem w).done ≡ true = found_in _ _ es own.0 own.1.found
          (rw (eq-eqb own.0.receipt.worker w own.1.by) (eq-eqb own.0.receipt.number _ own.1.under)) in
          let clash : true ≡ false = sym there ∙ none.no_entry in absurd (cc))
      | inr there ↦
          (let receipt : IsLastReceiptWords (worker_words mem w) es w = account.receipt past some there in
          record { last = receipt.last; found = receipt.found; at = sym receipt.at ∙ site })
    ]
